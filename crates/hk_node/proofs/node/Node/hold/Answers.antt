use Rattle.hk_node.proofs.SomeLists.{holds_some}
use Rattle.hk_node.proofs.node.Node.hold.Goals as goal

pub returns-clause-change : goal.returns-clause-change
returns-clause-change g c = holds_some g.J.NodeName.kind c.deref_mut.result.now c.hold_at.new.publisher c.args.time c.hold_at.result c.hold_at.ensures.before c.hold_at.ensures.change c.hold_at.ensures.waits
