use Rattle.std.proofs.Common.{rules}
use Rattle.hk_node.proofs.change.unpublished.Goals as goal

pub returns : goal.returns
returns c = search rules
