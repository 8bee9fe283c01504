use Rattle.std.proofs.Common.{ap, ◌-◌, ◌∙◌, length}
use Rattle.std.specs.List.{slice_get}
use Rattle.hk_codec.proofs.ListLoops.{last_is}
use Rattle.hk_codec.proofs.kept.AllKeeps.last.Goals as goal

pub returns-in-Some : goal.returns-in-Some
returns-in-Some g c = rw (c.place_of.ensures, ← c.self.view_is) (last_is g.E.Elements.place c.self.inside.elements.items c.in-Some.element.now (c.in-Some.ensures.value ∙ ap (λ l. slice_get l (length l - 1)) c.deref.ensures.value))
