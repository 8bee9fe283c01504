use Rattle.std.proofs.Common.{◌≡◌, map}
use Rattle.hk_store.specs.Versions.{borrowed}
use Rattle.hk_delta.specs.Cuts.{all_left}
use Rattle.hk_delta.proofs.cutting.left_of_all.Given as goal

abbrev pub invariant-loop-version : goal.invariant-loop-version
invariant-loop-version l = l.left.items ≡ all_left l.base (map borrowed l.yielded)
