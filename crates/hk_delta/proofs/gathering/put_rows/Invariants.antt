use Rattle.std.proofs.Common.{◌≡◌, ◌++◌, take}
use Rattle.std.specs.List.{flat_map}
use Rattle.hk_delta.specs.Gathers.{row_fact}
use Rattle.hk_delta.proofs.gathering.put_rows.Given as goal

abbrev pub invariant-loop-table : goal.invariant-loop-table
invariant-loop-table l = l.facts.items ≡ l.initial.facts.items ++ flat_map (row_fact l.time) (take l.table-index l.rows)
