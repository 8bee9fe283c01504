-- What one fact makes of what is known of a version, and what is left of it without a part.
use Rattle.std.specs.Prelude.{ℕ, Bool, ◌==◌, Option, Some, None, Result, Ok, Err, if◌then◌else◌, is_some}
use Rattle.hk_types.specs.Values.{RowValue, same_row}
use Rattle.hk_types.specs.declared.faults.Refusal.{Refusal}
use Rattle.hk_types.specs.declared.faults.Refusal.TheVariants.{Conflict}
use Rattle.hk_log.specs.Versions.{VersionValue, is_known}
use Rattle.hk_model.specs.Replica.Maps.{values_conflict, or_else}
use Rattle.hk_facts.specs.declared.fact.Fact.{Fact}
use Rattle.hk_facts.specs.declared.fact.Fact.TheVariants.{Row, End}
use Rattle.hk_facts.specs.declared.fact.Part.{Part}
use Rattle.hk_facts.specs.declared.fact.Part.TheVariants.{Row as RowPart, End as EndPart, Whole}

-- the row of a version, where there is one and its row is known
abbrev pub row_of : Option VersionValue → Option RowValue
row_of None = None
row_of (Some v) = v.row

-- the end of a version, where there is one and its end is known
abbrev pub died_of : Option VersionValue → Option ℕ
died_of None = None
died_of (Some v) = v.died

-- whether a row is known of a version, where the fact is one, or an end, where it is one
abbrev pub has_like : Option VersionValue → Fact → Bool
has_like v (Row row) = is_some (row_of v)
has_like v (End died) = is_some (died_of v)

-- whether the version has another row, or another end, than the fact says
abbrev pub fact_conflicts : Fact → Option VersionValue → Bool
fact_conflicts (Row row) v = values_conflict same_row (row_of v) (Some row)
fact_conflicts (End died) v = values_conflict (λ a b. a == b) (died_of v) (Some died)

-- the version with the fact
abbrev pub with_fact : Fact → Option VersionValue → VersionValue
with_fact (Row row) v = record { row = or_else (row_of v) (Some row); died = died_of v }
with_fact (End died) v = record { row = row_of v; died = or_else (died_of v) (Some died) }

-- the version with the fact, unless they conflict
abbrev pub put_result : Fact → Option VersionValue → Result VersionValue Refusal
put_result fact v = if fact_conflicts fact v then Err Conflict else Ok (with_fact fact v)

-- a version of which anything is known
abbrev pub if_known : VersionValue → Option VersionValue
if_known v = if is_known v then Some v else None

-- what is left of a version without a part
abbrev pub without : Part → Option VersionValue → Option VersionValue
without RowPart v = if_known (record { row = None; died = died_of v })
without EndPart v = if_known (record { row = row_of v; died = None })
without Whole v = None
