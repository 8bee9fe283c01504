use Rattle.hk_oplog.proofs.Holds.{hold_law_proof}
use Rattle.hk_oplog.proofs.laws.hold_law.Goals as goal

pub returns : goal.returns
returns c = hold_law_proof
