use Rattle.hk_node.proofs.Prefixes.{prefix_self}
use Rattle.hk_node.proofs.seat.take_longer.Goals as goal

pub returns-then-compare-clause-told : goal.returns-then-compare-clause-told
returns-then-compare-clause-told c = prefix_self c.args.told.1
