use Rattle.hk_oplog.proofs.FinalAnswers.{final_law_proof}
use Rattle.hk_oplog.proofs.laws.final_law.Goals as goal

pub returns : goal.returns
returns c = final_law_proof
