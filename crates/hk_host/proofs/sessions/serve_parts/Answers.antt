use Rattle.hk_link.proofs.BothSeen.{both_step}
use Rattle.hk_host.proofs.sessions.serve_parts.Goals as goal

pub returns-clause-seen : goal.returns-clause-seen
returns-clause-seen g c = let told = c.serve_waiting-ended.ensures.transcript in both_step g.H.NodeSide.side g.H.Host.may _ _ _ _ _ told.0 _ told.2 c.end-inner.ensures.seen

pub returns-clause-transcript : goal.returns-clause-transcript
returns-clause-transcript g c = (c.serve_waiting-ended.new.host, c.serve_waiting-ended.ensures.transcript, c.end-inner.ensures.released)
