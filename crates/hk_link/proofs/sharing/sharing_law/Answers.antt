use Rattle.hk_link.proofs.SharedHosts.{links_share, seats_share}
use Rattle.hk_link.proofs.sharing.sharing_law.Goals as goal

pub returns : goal.returns
returns g c = record {
  first = seats_share g.H.NodeSide.side g.H.Host.may c.laws.ensures;
  both = links_share g.H.NodeSide.side g.H.Host.may;
}
