use Rattle.std.proofs.Common.{refl}
use Rattle.std.proofs.Math.Logic.{∥∥₁_map}
use Rattle.hk_net.proofs.Connections.{stays_at, stood_beside, stood_still}
use Rattle.hk_net.proofs.client.Client.lets_leave.Goals as goal

pub invariant_of-self : goal.invariant_of-self
invariant_of-self g c =
    let same = c.end_round.ensures in
    let link = c.end_round.new.self in
    let seen = c.self.inside.peer.seen in
    ∥∥₁_map c.self.invariant (λ stood. stood_beside g.J.NodeName.kind link (record link { pipe = c.leave.new.self }) seen (stays_at link.pipe.exchange c.leave.new.self.exchange c.leave.ensures) refl
    (stood_still g.J.NodeName.kind c.self.inside.peer.link link seen same.stays same.stage same.kept same.passes stood))
