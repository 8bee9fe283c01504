use Rattle.std.proofs.Common.{ap, ◌∙◌}
use Rattle.hk_exchange.specs.Exchanges.{value_of}
use Rattle.hk_net.proofs.Connections.{stood_opens}
use Rattle.hk_net.proofs.client.Client.begin.Goals as goal

pub invariant_of-self : goal.invariant_of-self
invariant_of-self g c =
    let peer = c.begin.new.self in
    ∣ stood_opens g.J.NodeName.kind c.args.kept peer.link peer.seen (c.begin.ensures.opens (ap (λ v. value_of v.0) c.self.view_is ∙ c.requires)) ∣₁
