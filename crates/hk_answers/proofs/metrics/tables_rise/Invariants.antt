use Rattle.std.proofs.Common.{◌≡◌, None, drop}
use Rattle.hk_answers.specs.Metrics as spec
use Rattle.hk_answers.proofs.metrics.tables_rise.Given as goal

abbrev pub invariant-loop-table : goal.invariant-loop-table
invariant-loop-table l = spec.tables_rise l.before (drop l.table-index l.tables) ≡ spec.tables_rise None l.tables
