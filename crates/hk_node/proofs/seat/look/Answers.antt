use Rattle.std.proofs.Common.{rules}
use Rattle.hk_node.proofs.seat.look.Goals as goal

pub returns-clause-seen : goal.returns-clause-seen
returns-clause-seen c = search rules
