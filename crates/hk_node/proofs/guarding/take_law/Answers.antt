use Rattle.hk_node.proofs.TakenItems.{take_law_proof}
use Rattle.hk_node.proofs.guarding.take_law.Goals as goal

pub returns : goal.returns
returns c = take_law_proof
