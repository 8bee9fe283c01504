use Rattle.hk_oplog.proofs.FinalAnswers.{again_law_proof}
use Rattle.hk_oplog.proofs.laws.again_law.Goals as goal

pub returns : goal.returns
returns c = again_law_proof
