use Rattle.hk_oplog.specs.declared.op.Op.TheVariants.{Join}
use Rattle.hk_node.proofs.SomeLists.{counts_some}
use Rattle.hk_node.proofs.node.Node.join_gathered.Goals as goal

pub returns-clause-change : goal.returns-clause-change
returns-clause-change g c = counts_some g.J.NodeName.kind c.deref_mut.result.now c.join_gathered.new.publisher (Join c.args.fragment) c.join_gathered.result c.join_gathered.ensures.before c.join_gathered.ensures.change
