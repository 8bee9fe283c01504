use Rattle.hk_link.proofs.Marks.{marks_law_proof}
use Rattle.hk_link.proofs.sharing.marks_law.Goals as goal

pub returns : goal.returns
returns c = marks_law_proof
