use Rattle.std.proofs.Common.{rules}
use Rattle.hk_node.proofs.node.Node.join.Goals as goal

pub returns-clause-change : goal.returns-clause-change
returns-clause-change g c = search rules

pub returns-clause-last : goal.returns-clause-last
returns-clause-last g c = search rules
