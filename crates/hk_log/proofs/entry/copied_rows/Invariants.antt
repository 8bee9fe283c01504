use Rattle.std.proofs.Common.{◌≡◌, take}
use Rattle.hk_log.proofs.entry.copied_rows.Given as goal

abbrev pub invariant-loop-table : goal.invariant-loop-table
invariant-loop-table l = l.copies.items ≡ take l.table-index l.rows
