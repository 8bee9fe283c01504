use Rattle.std.proofs.Common.{rules}
use Rattle.std.proofs.lemmas.Grind.{common_steps}
use Rattle.hk_handle.proofs.replica.Replica.copy_reply.Goals as goal

pub returns-clause-count : goal.returns-clause-count
returns-clause-count c = search (rules, common_steps)
