use Rattle.std.proofs.Common.{rules}
use Rattle.hk_node.proofs.replica.ReplicaAbsorbLogged.absorb_first.Goals as goal

pub returns-clause-absorbed : goal.returns-clause-absorbed
returns-clause-absorbed c = search rules
