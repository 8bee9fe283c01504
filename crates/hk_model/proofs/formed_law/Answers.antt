use Rattle.hk_model.proofs.History.Formed.{items_formed}
use Rattle.hk_model.proofs.formed_law.Goals as goal

pub returns : goal.returns
returns c = items_formed
