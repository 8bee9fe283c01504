-- The line of a refusal.
use Rattle.std.specs.Prelude.{ℕ, List, [], ◌∷◌, ◌++◌, codes}
use Rattle.hk_types.specs.declared.faults.Refusal.{Refusal}
use Rattle.hk_types.specs.declared.faults.Refusal.TheVariants.{Gap, AheadOfMark, TooOld, NotYet, WriteConflict, NoRow, Retired, Held, Unpublished, LinkFull}
use Rattle.hk_types.specs.FaultNumbers.{refusal_number}
use Rattle.hk_cli_json.specs.Fields.{joined, wide, small}
use Rattle.hk_cli_json.specs.Items.{place}

-- a further field that is a number of 64 bits
abbrev pub further : List ℕ → ℕ → List ℕ
further name n = joined (codes "," ∷ wide name n)

-- further fields that say where a row is
abbrev pub further_place : ℕ → ℕ → List ℕ
further_place table key = joined (codes "," ∷ place table key)

-- the fields of a refusal that has no times
abbrev pub plain_fields : Refusal → List ℕ
plain_fields (NoRow table key) = further_place table key
plain_fields (Retired stream) = joined (codes "," ∷ small (codes "stream") stream)
plain_fields (Unpublished ops) = further (codes "ops") ops
plain_fields (LinkFull most) = further (codes "most") most
plain_fields other = []

-- the fields of a refusal behind its number
abbrev pub fields_of : Refusal → List ℕ
fields_of (Gap base readable) = further (codes "base") base ++ further (codes "readable") readable
fields_of (AheadOfMark readable) = further (codes "readable") readable
fields_of (NotYet readable) = further (codes "readable") readable
fields_of (TooOld horizon) = further (codes "horizon") horizon
fields_of (WriteConflict table key at) = further_place table key ++ further (codes "at") at
fields_of (Held reader at) = further (codes "at") at ++ further (codes "reader") reader
fields_of other = plain_fields other

-- the number of a refusal
unfoldable pub refused_part : ℕ → List ℕ
refused_part number = joined (codes "{" ∷ small (codes "refused") number)

-- the line of a refusal
abbrev pub refusal_line : Refusal → List ℕ
refusal_line why = refused_part (refusal_number why) ++ fields_of why ++ codes "}\n"
