use Rattle.std.proofs.Common.{◌∙◌}
use Rattle.hk_marks.proofs.Readers.{extra_numbers_seen}
use Rattle.hk_marks.proofs.stream.Stream.extra_numbers.Goals as goal

pub returns-clause-value : goal.returns-clause-value
returns-clause-value c = c.numbers_of.ensures.value ∙ rw (← c.self.view_is) (extra_numbers_seen _ _ c.self.inside.closed c.self.inside.waiting c.self.invariant.stored.extras)
