use Rattle.hk_model.proofs.Laws.{deliver_law_proof, reply_law_proof}
use Rattle.hk_model.proofs.Equal.{deliver_represents_proof, deliver_replies_proof}
use Rattle.hk_laws.proofs.laws.deliver_law.Goals as goal

pub returns : goal.returns
returns c = record { content_of = deliver_law_proof; represents = deliver_represents_proof; replies = deliver_replies_proof; rows = reply_law_proof }
