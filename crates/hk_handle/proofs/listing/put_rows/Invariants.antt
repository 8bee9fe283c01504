use Rattle.std.proofs.Common.{◌≡◌, ◌++◌, take}
use Rattle.hk_handle.specs.Calls.{rows_text}
use Rattle.hk_handle.proofs.listing.put_rows.Given as goal

abbrev pub invariant-loop-key : goal.invariant-loop-key
invariant-loop-key l = l.out.items ≡ l.fn.out.items ++ rows_text l.low (take l.key-index l.rows)
