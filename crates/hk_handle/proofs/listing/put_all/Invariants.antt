use Rattle.std.proofs.Common.{◌≡◌, ◌++◌, take}
use Rattle.hk_handle.specs.Pages.{page_text}
use Rattle.hk_handle.proofs.listing.put_all.Given as goal

abbrev pub invariant-loop-key : goal.invariant-loop-key
invariant-loop-key l = l.out.items ≡ l.fn.out.items ++ page_text (take l.key-index l.rows)
