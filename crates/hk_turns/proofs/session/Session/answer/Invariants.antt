use Rattle.std.proofs.Common.{◌≡◌, length}
use Rattle.hk_session_parts.proofs.SessionTurns.{TurnSoFar}
use Rattle.hk_turns.proofs.session.Session.answer.Given as goal

abbrev pub invariant-requests : goal.invariant-requests
invariant-requests g l =
    record {
      so_far : TurnSoFar g.H.Host.may l.fn.host l.host l.fn.self l.self l.fn.has_waited l.waited l.fn.out.items l.out.items;
      begun : l.self.begun ≡ l.fn.self.begun;
      ready : g.H.Host.ready l.host;
    }

abbrev pub decreases-requests : goal.decreases-requests
decreases-requests g l = length l.self.requests
