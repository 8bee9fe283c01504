use Rattle.hk_numbers.proofs.JoinedRuns.{seen_copied, seen_both_none}
use Rattle.hk_numbers.proofs.numbers.copy.Goals as goal

pub returns-clause-same : goal.returns-clause-same
returns-clause-same c = seen_copied _ _ _ _ c.new-copied.ensures.empty c.requires c.make_room.ensures.same c.settle.ensures.runs c.settle.ensures.unites

pub returns-then-is_empty-clause-same : goal.returns-then-is_empty-clause-same
returns-then-is_empty-clause-same c = seen_both_none _ c.args.runs.now c.new-copied.ensures.empty (c.is_empty.ensures.0 c.if-is_empty.true)
