use Rattle.std.proofs.Common.{Some, refl}
use Rattle.hk_net.proofs.Connections.{opens}
use Rattle.hk_net.proofs.client.Peer.begin.Goals as goal

pub returns-clause-opens : goal.returns-clause-opens
returns-clause-opens g c fresh = opens g.J.NodeName.kind c.args.kept (record c.args.self.now.link { kept = Some c.args.kept }) fresh refl
