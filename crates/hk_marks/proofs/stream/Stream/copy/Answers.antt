use Rattle.std.proofs.Common.{ap}
use Rattle.std.specs.FinSet as set
use Rattle.std.specs.Ordering.{nat_cmp}
use Rattle.hk_marks.proofs.Readers.{alike_seen, alike_stored}
use Rattle.hk_marks.proofs.stream.Stream.copy.Goals as goal

pub invariant_of-result : goal.invariant_of-result
invariant_of-result c = record {
  runs = c.in_ok-copy.ensures.kept;
  stored = alike_stored _ _ _ _ _ (λ q. ap (λ (s : set.FinSet nat_cmp). set.contains s q) c.in_ok-copy.ensures.same) c.in_ok-copy_marks.ensures c.self.invariant.stored;
}

pub returns : goal.returns
returns c = rw (← c.self.view_is) (alike_seen _ _ _ _ _ _ (λ q. ap (λ (s : set.FinSet nat_cmp). set.contains s q) c.in_ok-copy.ensures.same) c.in_ok-copy_marks.ensures)
