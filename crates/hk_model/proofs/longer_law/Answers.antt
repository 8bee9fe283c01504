use Rattle.hk_model.proofs.Replica.Steps.{item_longer}
use Rattle.hk_model.proofs.longer_law.Goals as goal

pub returns : goal.returns
returns c = item_longer
