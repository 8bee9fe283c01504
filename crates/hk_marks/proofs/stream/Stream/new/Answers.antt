use Rattle.hk_numbers.proofs.SeenRuns.{empty_seen, kept_empty}
use Rattle.hk_marks.proofs.Readers.{unknown_seen, nothing_stored}
use Rattle.hk_marks.proofs.stream.Stream.new.Goals as goal

pub invariant_of-result : goal.invariant_of-result
invariant_of-result c = record { runs = kept_empty _ c.new.ensures.empty c.new.ensures.ordered; stored = nothing_stored _ _ (empty_seen _ c.new.ensures.empty) c.new-2.ensures.empty }

pub returns : goal.returns
returns c = unknown_seen _ _ _ (empty_seen _ c.new.ensures.empty) c.zero.ensures c.new-2.ensures.empty
