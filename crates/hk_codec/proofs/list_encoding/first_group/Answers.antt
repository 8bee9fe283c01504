use Rattle.std.proofs.Common.{sym, ap}
use Rattle.hk_codec.proofs.ListLoops.{first_is}
use Rattle.hk_codec.proofs.list_encoding.first_group.Goals as goal

pub returns-in-Some : goal.returns-in-Some
returns-in-Some g c = first_is g.E.Elements.place c.args.elements.now c.in-Some.element.now c.place_of-table.result.0 c.run_of.result c.in-Some.ensures.value (ap (λ p. p.0) (sym c.place_of-table.ensures)) c.run_of.ensures.most c.run_of.ensures.same c.run_of.ensures.other
