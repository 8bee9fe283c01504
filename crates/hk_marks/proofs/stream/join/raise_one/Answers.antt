use Rattle.std.proofs.Common.{◌∙◌}
use Rattle.hk_marks.proofs.JoinedStreams.{of_true, one_closed, one_raised}
use Rattle.hk_marks.proofs.stream.join.raise_one.Goals as goal

pub returns-then-count-prefix : goal.returns-then-count-prefix
returns-then-count-prefix c = one_closed c.args.prefix _ _ _ _ c.args.waiting.now c.if-count-prefix.true c.close_up_to.ensures

pub returns-else-count-prefix : goal.returns-else-count-prefix
returns-else-count-prefix c = one_raised c.args.prefix c.args.closed.now _ _ c.args.waiting.now c.raise_waiting.new.waiting (of_true c.raise_waiting.result (c.raise_waiting.ensures.test ∙ c.requires c.if-count-prefix.false) c.raise_waiting.ensures.found)
