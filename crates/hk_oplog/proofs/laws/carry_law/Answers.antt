use Rattle.hk_oplog.proofs.Carries.{carry_law_proof}
use Rattle.hk_oplog.proofs.laws.carry_law.Goals as goal

pub returns : goal.returns
returns c = carry_law_proof
