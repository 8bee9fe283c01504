use Rattle.hk_link_state.proofs.Seen.{goes_step}
use Rattle.hk_seats.proofs.sessions.serve_plain.Goals as goal

pub returns-clause-seen : goal.returns-clause-seen
returns-clause-seen g c = let told = c.serve-ended.ensures.transcript in goes_step g.H.NodeSide.side g.H.Host.may c.laws.ensures _ _ _ _ told.0 _ told.2

pub returns-clause-transcript : goal.returns-clause-transcript
returns-clause-transcript g c = c.serve-ended.ensures.transcript
