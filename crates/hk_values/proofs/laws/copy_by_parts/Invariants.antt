use Rattle.std.proofs.Common.{◌≡◌, length}
use Rattle.hk_values.proofs.laws.copy_by_parts.Given as goal

abbrev pub invariant-loop-split : goal.invariant-loop-split
invariant-loop-split l =
    record {
      whole : l.split.whole ≡ l.fn.fragment;
      came : l.came ≡ l.split.given;
    }

abbrev pub decreases-loop-split : goal.decreases-loop-split
decreases-loop-split l = length l.split.left
