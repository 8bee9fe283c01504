use Rattle.hk_net.proofs.Connections.{stood_new}
use Rattle.hk_net.proofs.client.Client.new.Goals as goal

pub invariant_of-result : goal.invariant_of-result
invariant_of-result g c = ∣ stood_new g.J.NodeName.kind c.args.link _ c.requires.new c.requires.none ∣₁
