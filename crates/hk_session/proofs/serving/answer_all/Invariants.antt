use Rattle.std.proofs.Common.{◌≡◌, []}
use Rattle.hk_session_parts.proofs.SessionTurns.{left_to_do}
use Rattle.hk_session_parts.proofs.SpokenTurns.{SpokenSoFar}
use Rattle.hk_session.proofs.serving.answer_all.Given as goal

abbrev pub invariant-steps : goal.invariant-steps
invariant-steps g l =
    record {
      quiet : l.writer.faults ≡ 0;
      ready : g.H.Host.ready l.host;
      none : l.out.items ≡ [];
      so_far : SpokenSoFar g.row.LATEST g.H.Host.may l.fn.host l.host (g.W.Write.contents l.fn.writer.device) (g.W.Write.contents l.writer.device) l.fn.session l.session;
    }

abbrev pub decreases-steps : goal.decreases-steps
decreases-steps g l = left_to_do l.session
