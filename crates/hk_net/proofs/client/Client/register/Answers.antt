use Rattle.std.proofs.Common.{[], refl}
use Rattle.std.proofs.Math.Logic.{∥∥₁_map}
use Rattle.hk_net.proofs.Connections.{stood_beside}
use Rattle.hk_net.proofs.client.Client.register.Goals as goal

pub invariant_of-self : goal.invariant_of-self
invariant_of-self g c =
    let link = c.self.inside.peer.link in
    ∥∥₁_map c.self.invariant (stood_beside g.J.NodeName.kind link (record link { pipe = c.register.new.self }) c.self.inside.peer.seen (λ passes. c.register.ensures passes []) refl)
