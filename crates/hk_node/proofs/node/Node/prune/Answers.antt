use Rattle.hk_node.proofs.SomeLists.{prunes_some}
use Rattle.hk_node.proofs.node.Node.prune.Goals as goal

pub returns-clause-change : goal.returns-clause-change
returns-clause-change g c = prunes_some g.J.NodeName.kind c.deref_mut.result.now c.prune_to.new.publisher c.args.time c.prune_to.result c.prune_to.ensures.before c.prune_to.ensures.change
