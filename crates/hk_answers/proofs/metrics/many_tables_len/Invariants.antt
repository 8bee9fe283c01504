use Rattle.std.proofs.Common.{◌≡◌, ◌≤◌, ◌*◌, length, take, All}
use Rattle.std.specs.List.{flat_map}
use Rattle.hk_answers.specs.Metrics as spec
use Rattle.hk_answers.proofs.metrics.many_tables_len.Given as goal

abbrev pub invariant-loop-table : goal.invariant-loop-table
invariant-loop-table l = (l.total ≡ length (flat_map spec.table_text (take l.table-index l.tables))) × (l.total ≤ 2 * l.table-index) × All spec.TableFits (take l.table-index l.tables)
