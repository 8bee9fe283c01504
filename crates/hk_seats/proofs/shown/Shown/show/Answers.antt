use Rattle.std.proofs.Common.{◌++◌, sym, ap, ◌∙◌}
use Rattle.hk_seats.specs.Showing.{shown_of}
use Rattle.hk_seats.proofs.shown.Shown.show.Goals as goal

pub returns-in_default-clause-shown : goal.returns-in_default-clause-shown
returns-in_default-clause-shown g c = (c.args.seat.now, ap (λ l. l ++ c.args.seat.now) (sym c.self.view_is ∙ ap shown_of c.in_default.is))
