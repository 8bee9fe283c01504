use Rattle.std.proofs.Common.{◌∙◌, sym, ap}
use Rattle.std.specs.Option.{option_copied}
use Rattle.hk_marks.proofs.Readers.{told_closed, told_later, told_never}
use Rattle.hk_marks.proofs.stream.Stream.adds_nothing.Goals as goal

pub returns-then-count-self : goal.returns-then-count-self
returns-then-count-self c = c.le.ensures ∙ rw (← c.self.view_is) (told_closed _ _ _ _ _ _ c.self.invariant.stored.extras c.if-count-self.true)

pub returns-in-Some : goal.returns-in-Some
returns-in-Some c = c.le-in-Some.ensures ∙ rw (← c.self.view_is) (told_later _ _ _ _ _ _ _ c.self.invariant.stored.extras c.if-count-self.false (sym c.get.ensures.value ∙ ap option_copied c.in-Some.is))

pub returns-in-None : goal.returns-in-None
returns-in-None c = rw (← c.self.view_is) (told_never _ _ _ _ _ _ c.self.invariant.stored.extras c.if-count-self.false (sym c.get.ensures.value ∙ ap option_copied c.in-None.is))
