use Rattle.std.proofs.Common.{refl}
use Rattle.std.proofs.Math.Logic.{∥∥₁_map}
use Rattle.hk_net.proofs.Connections.{stays_at, stood_beside}
use Rattle.hk_net.proofs.client.Client.end_wait.Goals as goal

pub invariant_of-self : goal.invariant_of-self
invariant_of-self g c =
    let link = c.self.inside.peer.link in
    ∥∥₁_map c.self.invariant (stood_beside g.J.NodeName.kind link (record link { pipe = c.end_wait.new.self }) c.self.inside.peer.seen (stays_at link.pipe.exchange c.end_wait.new.self.exchange c.end_wait.ensures) refl)
