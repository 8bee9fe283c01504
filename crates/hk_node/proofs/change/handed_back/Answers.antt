use Rattle.std.proofs.Common.{rules}
use Rattle.hk_node.proofs.change.handed_back.Goals as goal

pub returns-in_default : goal.returns-in_default
returns-in_default c = search rules
