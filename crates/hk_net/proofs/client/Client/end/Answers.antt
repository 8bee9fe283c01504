use Rattle.std.proofs.Common.{subst}
use Rattle.hk_net.specs.Connections.{IsServed}
use Rattle.hk_net.proofs.Connections.{stood_served}
use Rattle.hk_net.proofs.client.Client.end.Goals as goal

pub returns : goal.returns
returns g c =
    let peer = c.self.inside.peer in
    subst (λ v. IsServed v.1.0 v.0) c.self.view_is (stood_served g.J.NodeName.kind peer.link peer.seen c.self.invariant)
