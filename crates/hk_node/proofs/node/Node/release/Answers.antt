use Rattle.hk_node.proofs.SomeLists.{releases_some}
use Rattle.hk_node.proofs.node.Node.release.Goals as goal

pub returns-clause-change : goal.returns-clause-change
returns-clause-change g c = releases_some g.J.NodeName.kind c.deref_mut.result.now c.release_hold.new.publisher c.args.hold c.release_hold.result c.release_hold.ensures.before c.release_hold.ensures.change
