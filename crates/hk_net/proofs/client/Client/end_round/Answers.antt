use Rattle.std.proofs.Math.Logic.{∥∥₁_map}
use Rattle.hk_net.proofs.Connections.{stood_still}
use Rattle.hk_net.proofs.client.Client.end_round.Goals as goal

pub invariant_of-self : goal.invariant_of-self
invariant_of-self g c =
    let same = c.end_round.ensures in
    ∥∥₁_map c.self.invariant (stood_still g.J.NodeName.kind c.self.inside.peer.link c.end_round.new.self c.self.inside.peer.seen same.stays same.stage same.kept same.passes)
