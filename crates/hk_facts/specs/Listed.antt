-- Versions in a list, by rising birth.
use Rattle.std.specs.Prelude.{ℕ, Bool, false, not, ◌==◌, ◌≡◌, ◌<◌, List, Option, Some, None, length, if◌then◌else◌, is_some}
use Rattle.std.specs.Bool.{beq}
use Rattle.std.specs.Option.{option_to_list}
use Rattle.std.specs.Ordering.{nat_cmp}
use Rattle.std.specs.List.{AllWithin, HoldsAt}
use Rattle.std.specs.List.Sorted.{IsStrictlySortedBy}
use Rattle.std.specs.Map.{keys_of}
use Rattle.std.specs.FinMap as finmap
use Rattle.hk_log.specs.Versions.{VersionValue}
use Rattle.hk_facts.specs.Chains.{ChainValue}

-- the chain of the versions of a list
abbrev pub listed : List (ℕ × VersionValue) → ChainValue
listed es = finmap.from_entries es

-- each version was born before those behind it
abbrev pub AreByBirth : List (ℕ × VersionValue) → Type 0
AreByBirth es = IsStrictlySortedBy nat_cmp (keys_of es)

-- the version at a place was born then
abbrev pub StandsAt : List (ℕ × VersionValue) → ℕ → ℕ → Type 0
StandsAt es born i = (i < length es) × HoldsAt (λ e. e.0 ≡ born) es i

-- those before a place were born before, the others after
abbrev pub FitsAt : List (ℕ × VersionValue) → ℕ → ℕ → Type 0
FitsAt es born i = AllWithin (λ e. e.0 < born) es 0 i × AllWithin (λ e. born < e.0) es i (length es)

-- the chain of the version that there is, if there is one
abbrev pub first_only : Option (ℕ × VersionValue) → ChainValue
first_only first = listed (option_to_list first)

-- whether there is a version that was born at another time
abbrev pub is_other : Option (ℕ × VersionValue) → ℕ → Bool
is_other None born = false
is_other (Some e) born = not (e.0 == born)

-- the version, if whether it has a row is as it is to be
abbrev pub if_row : Bool → Option VersionValue → Option VersionValue
if_row with_row None = None
if_row with_row (Some v) = if beq (is_some v.row) with_row then Some v else None

-- a chain has those versions of a list that have a row, or those that have none
abbrev pub IsPartOf : Bool → List (ℕ × VersionValue) → ChainValue → Type 0
IsPartOf with_row es part = (born : ℕ) → finmap.get part born ≡ if_row with_row (finmap.get (listed es) born)
