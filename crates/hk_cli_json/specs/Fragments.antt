-- The parts of the line of a fragment's head, and the line of a fact.
use Rattle.std.specs.Prelude.{ℕ, List, [], ◌∷◌, ◌++◌, codes, Option, Some, None}
use Rattle.hk_types.specs.declared.version_key.VersionKey.{VersionKey}
use Rattle.hk_fragment.specs.Parts.{Known}
use Rattle.hk_cli_json.specs.Answers.{maybe_row}
use Rattle.hk_cli_json.specs.Fields.{joined, wide, comma}
use Rattle.hk_cli_json.specs.Items.{place}

-- ---- a fragment's head

-- its log and its times
abbrev pub head_part : ℕ → ℕ → ℕ → List ℕ
head_part log base horizon =
    joined (codes "{\"fragment\":{" ∷ wide (codes "log") log ++ codes "," ∷ wide (codes "base") base
    ++ codes "," ∷ wide (codes "horizon") horizon ++ codes ",\"streams\":[" ∷ [])

-- up to which number all entries of a stream are applied
abbrev pub prefix_part : ℕ → List ℕ
prefix_part prefix = joined (codes "{" ∷ wide (codes "prefix") prefix ++ codes ",\"extra\":[" ∷ [])

-- up to when it is closed
abbrev pub closed_part : ℕ → List ℕ
closed_part closed = joined (codes "]," ∷ wide (codes "closed") closed ++ codes ",\"waiting\":[" ∷ [])

-- a mark that waits, after so many others
abbrev pub mark_part : ℕ → ℕ → ℕ → List ℕ
mark_part before n m =
    comma before ++ joined (codes "{" ∷ wide (codes "n") n ++ codes "," ∷ wide (codes "m") m ++ codes "}" ∷ [])

-- how many facts there are
abbrev pub count_part : ℕ → List ℕ
count_part facts = joined (codes "]," ∷ wide (codes "facts") facts ++ codes "}}\n" ∷ [])

-- ---- facts

-- which version it is
abbrev pub key_part : VersionKey → List ℕ
key_part v =
    joined (codes "{\"fact\":{" ∷ place v.table v.key ++ codes "," ∷ wide (codes "born") v.born
    ++ codes ",\"row\":" ∷ [])

-- when it ended, where that is known
abbrev pub died_part : Option ℕ → List ℕ
died_part (Some time) = joined (codes "," ∷ wide (codes "died") time ++ codes "}}\n" ∷ [])
died_part None = codes ",\"died\":null}}\n"

-- the line of a fact
abbrev pub fact_line : Known → List ℕ
fact_line e = key_part e.0 ++ maybe_row e.1.row ++ died_part e.1.died
