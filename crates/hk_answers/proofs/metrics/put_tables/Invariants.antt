use Rattle.std.proofs.Common.{◌≡◌, ◌++◌, length, take}
use Rattle.std.specs.Int.{w32}
use Rattle.std.specs.List.{flat_map}
use Rattle.hk_frames.specs.Fields.{number}
use Rattle.hk_answers.specs.Metrics as spec
use Rattle.hk_answers.proofs.metrics.put_tables.Given as goal

abbrev pub invariant-loop-table : goal.invariant-loop-table
invariant-loop-table l = l.out.items ≡ l.fn.out.items ++ (number w32 (length l.tables) ++ flat_map spec.table_text (take l.table-index l.tables))
