use Rattle.std.proofs.Common.{◌≡◌, false, map}
use Rattle.std.specs.List.{list_any}
use Rattle.hk_store.specs.Versions.{borrowed}
use Rattle.hk_merge.specs.Late.{is_late}
use Rattle.hk_merge.proofs.past.some_are_late.Given as goal

abbrev pub invariant-loop-version : goal.invariant-loop-version
invariant-loop-version l = list_any (λ e. is_late l.fn.own l.fn.readable l.fn.coming e.0 e.1) (map borrowed l.yielded) ≡ false
