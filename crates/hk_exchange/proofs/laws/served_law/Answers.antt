use Rattle.hk_exchange.proofs.Standing.{served}
use Rattle.hk_exchange.proofs.laws.served_law.Goals as goal

pub returns : goal.returns
returns c = served
