-- The union of two fragments of base 0 and horizon 0, and how two rising lists of versions are merged into one.
use Rattle.std.specs.Prelude.{◌≡◌, ◌⊎◌, List, [], ◌∷◌, ◌++◌, Option, Some, None}
use Rattle.std.specs.FinMap.{find}
use Rattle.std.specs.declared.cmp.Ordering.{Ordering}
use Rattle.std.specs.declared.cmp.Ordering.TheVariants.{Less, Equal, Greater}
use Rattle.hk_types.specs.declared.version_key.VersionKey.{VersionKey}
use Rattle.hk_log.specs.Versions.{VersionValue}
use Rattle.hk_model.specs.Replica.Maps.{or_else, union}
use Rattle.hk_model.specs.History.Rows.{version_key_cmp}
use Rattle.hk_model.specs.Replica.Streams.{all_together}
use Rattle.hk_model.specs.Replica.Fragments.{FragmentValue}
use Rattle.hk_fragment.specs.Parts.{Known}

-- a fragment as gathering makes it
abbrev pub IsFromZero : FragmentValue → Type 0
IsFromZero f = (f.base ≡ 0) × (f.content.horizon ≡ 0)

-- all rows, all ends and all numbers of both; each stream is closed by the marks of both that they cover together
abbrev pub union_of : FragmentValue → FragmentValue → FragmentValue
union_of f g =
    record {
      base = 0;
      content = record {
        log = f.content.log;
        horizon = 0;
        rows = union f.content.rows g.content.rows;
        ends = union f.content.ends g.content.ends;
        streams = all_together f.content.streams g.content.streams;
      };
    }

-- what two say of one version, the first where both say it
abbrev pub both_known : VersionValue → VersionValue → VersionValue
both_known x y = record { row = or_else x.row y.row; died = or_else x.died y.died }

-- what is known of a version in either of two lists
abbrev pub known_in_either : Option VersionValue → Option VersionValue → Option VersionValue
known_in_either None y = y
known_in_either (Some x) None = Some x
known_in_either (Some x) (Some y) = Some (both_known x y)

-- the list says of each version what either of two lists says
abbrev pub SaysBoth : List Known → List Known → List Known → Type 0
SaysBoth own coming both = (v : VersionKey) → find version_key_cmp v both ≡ known_in_either (find version_key_cmp v own) (find version_key_cmp v coming)

-- the last version of a list, where it has one, comes before this one
abbrev pub EndsBefore : List Known → VersionKey → Type 0
EndsBefore facts v = (facts ≡ []) ⊎ ((rest : List Known) × (last : Known) × (facts ≡ rest ++ last ∷ []) × (version_key_cmp last.0 v ≡ Less))

-- how the last version of the one list compares with that of the other; a list without one comes before
abbrev pub ComparesLast : List Known → List Known → Option Ordering → Type 0
ComparesLast own coming None = (own ≡ []) × (coming ≡ [])
ComparesLast own coming (Some Less) = (rest : List Known) × (last : Known) × (coming ≡ rest ++ last ∷ []) × EndsBefore own last.0
ComparesLast own coming (Some Greater) = (rest : List Known) × (last : Known) × (own ≡ rest ++ last ∷ []) × EndsBefore coming last.0
ComparesLast own coming (Some Equal) =
    (v : VersionKey) × (rest : List Known) × (x : VersionValue) × (left : List Known) × (y : VersionValue) × (own ≡ rest ++ (v, x) ∷ []) × (coming ≡ left ++ (v, y) ∷ [])

-- the greatest version of both lists was taken off: off the first, off the second, or off both
abbrev pub TakesGreatest : List Known → List Known → List Known → List Known → Option Known → Type 0
TakesGreatest own own_left coming coming_left None = (own ≡ []) × (coming ≡ [])
TakesGreatest own own_left coming coming_left (Some e) =
    ((own ≡ own_left ++ e ∷ []) × (coming ≡ coming_left) × EndsBefore coming e.0)
    ⊎ ((own ≡ own_left) × (coming ≡ coming_left ++ e ∷ []) × EndsBefore own e.0)
    ⊎ ((x : VersionValue) × (y : VersionValue) × (own ≡ own_left ++ (e.0, x) ∷ []) × (coming ≡ coming_left ++ (e.0, y) ∷ []) × (e.1 ≡ both_known x y))
