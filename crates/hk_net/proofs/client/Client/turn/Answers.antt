use Rattle.std.proofs.Common.{ap, sym, ◌∙◌}
use Rattle.std.proofs.Math.Logic.{∥∥₁_map}
use Rattle.hk_net.proofs.Connections.{stood_turn}
use Rattle.hk_net.proofs.client.Client.turn.Goals as goal

pub invariant_of-self : goal.invariant_of-self
invariant_of-self g c =
    let peer = c.self.inside.peer in
    let after = c.turn.new.self in
    ∥∥₁_map c.self.invariant
    (stood_turn g.J.NodeName.kind c.args.moment c.args.seat peer.link after.link peer.seen after.seen (c.requires ∙ sym (ap (λ v. v.1.0) c.self.view_is)) c.turn.ensures.passes c.turn.ensures.turn)
