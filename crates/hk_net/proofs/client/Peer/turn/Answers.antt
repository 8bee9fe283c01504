use Rattle.std.proofs.Common.{sym, ap, subst, ◌∙◌}
use mathlib.Core.List.{IsPrefix}
use Rattle.hk_net.specs.Connections.{SeatHost, may_of, side_of}
use Rattle.hk_net.proofs.Connections.{lived_at}
use Rattle.hk_net.proofs.client.Peer.turn.Goals as goal

pub returns-clause-turn : goal.returns-clause-turn
returns-clause-turn g c =
    let host = c.with_way-host.result in
    let is = sym (ap (λ (h : SeatHost). h.1) c.with_way-host.ensures) in
    lived_at (side_of g.J.NodeName.kind) (may_of g.J.NodeName.kind) c.args.moment.passes c.args.seat host.1 c.args.self.now.link c.show.new.self.link c.turn-turn.new.link c.note.new.self.link
    c.args.self.now.seen c.turn-turn.result.1.1 c.note.new.self.seen c.show.ensures.link c.note.ensures.link (c.note.ensures.seen ∙ c.into_seat-seat.ensures)
    (subst (IsPrefix c.args.seat) is c.show.ensures.grows) (c.turn-turn.ensures.turn c.args.self.now.seen (subst (IsPrefix c.args.self.now.seen) is c.show.ensures.shown))
