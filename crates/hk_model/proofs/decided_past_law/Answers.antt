use Rattle.hk_model.proofs.Replica.Turns.{key_decided, past_decided}
use Rattle.hk_model.proofs.decided_past_law.Goals as goal

pub returns : goal.returns
returns c = record { key = key_decided; all = past_decided }
