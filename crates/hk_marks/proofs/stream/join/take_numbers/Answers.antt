use Rattle.std.proofs.Common.{◌∙◌}
use Rattle.hk_marks.proofs.JoinedStreams.{numbers_joined, both_within}
use Rattle.hk_marks.proofs.stream.join.take_numbers.Goals as goal

pub grow-requires-clause-least : goal.grow-requires-clause-least
grow-requires-clause-least c = λ q e. (both_within _ _ _ _ _ c.requires.extras c.requires.others c.settle_all.ensures.unites q e).0

pub grow-requires-clause-most : goal.grow-requires-clause-most
grow-requires-clause-most c = λ q e. (both_within _ _ _ _ _ c.requires.extras c.requires.others c.settle_all.ensures.unites q e).1

pub returns-clause-taken : goal.returns-clause-taken
returns-clause-taken c = c.grow.ensures.same ∙ numbers_joined _ _ _ _ _ _ c.greater.ensures c.settle_all.ensures.unites
