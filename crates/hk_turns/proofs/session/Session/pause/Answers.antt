use Rattle.std.proofs.Common.{is_some, refl, sym, ap, ◌∙◌}
use Rattle.hk_session_parts.specs.Sessions.{SessionValue}
use Rattle.hk_session_parts.proofs.SessionStands.{open_left}
use Rattle.hk_turns.proofs.session.Session.pause.Goals as goal

pub returns-in_default-fault : goal.returns-in_default-fault
returns-in_default-fault g c =
    let held = open_left c.self.inside.feeder c.self.inside.fault c.self.invariant.0 (ap is_some c.in_default-fault.is) in
    (refl, sym c.in_default.ensures, (held.0, ap (λ (v : SessionValue). v.left) (sym c.self.view_is) ∙ held.1))
