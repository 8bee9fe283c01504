use Rattle.hk_primary.proofs.Verdicts.{accepted_law_proof}
use Rattle.hk_primary.proofs.verdict_law.Goals as goal

pub returns-clause-accepted : goal.returns-clause-accepted
returns-clause-accepted c = accepted_law_proof
