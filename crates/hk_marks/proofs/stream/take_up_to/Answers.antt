use Rattle.std.proofs.Common.{◌∙◌, arith}
use Rattle.hk_marks.proofs.StoredStreams.{taken_seen-upto, taken_seen-within}
use Rattle.hk_marks.proofs.stream.take_up_to.Goals as goal

pub returns-then-upto-prefix-clause-taken : goal.returns-then-upto-prefix-clause-taken
returns-then-upto-prefix-clause-taken c = c.grow.ensures.same ∙ taken_seen-upto _ _ _ (omega arith)

pub returns-else-upto-prefix-clause-taken : goal.returns-else-upto-prefix-clause-taken
returns-else-upto-prefix-clause-taken c = taken_seen-within _ _ _ (omega arith)
