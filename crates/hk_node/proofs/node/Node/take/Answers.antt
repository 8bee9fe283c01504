use Rattle.hk_node.proofs.SomeLists.{takes_some}
use Rattle.hk_node.proofs.node.Node.take.Goals as goal

pub returns-clause-take : goal.returns-clause-take
returns-clause-take g c = takes_some g.J.NodeName.kind c.deref_mut.result.now c.take_agreed.new.publisher c.args.items.now c.take_agreed.result c.take_agreed.ensures.before c.take_agreed.ensures.take
