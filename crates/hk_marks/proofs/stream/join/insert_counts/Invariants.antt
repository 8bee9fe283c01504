use Rattle.std.proofs.Common.{◌≡◌, ℕ, cond, Some, take}
use Rattle.std.specs.Ordering.{nat_cmp}
use Rattle.std.specs.BTreeMap as tree
use Rattle.hk_marks.specs.Parts.{has_number}
use Rattle.hk_marks.proofs.stream.join.insert_counts.Given as goal

abbrev pub invariant-loop-count : goal.invariant-loop-count
invariant-loop-count l = (q : ℕ) → tree.get nat_cmp l.waiting q ≡ cond (has_number (take l.count-index l.counts) q) (Some 0) (tree.get nat_cmp l.initial.waiting q)
