use Rattle.hk_oplog.proofs.GuardedLists.{guard_law_proof}
use Rattle.hk_oplog.proofs.laws.guard_law.Goals as goal

pub returns : goal.returns
returns c = guard_law_proof
