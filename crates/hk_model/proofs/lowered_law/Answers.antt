use Rattle.hk_model.proofs.Replica.Lowered.{lowered, lowered_join}
use Rattle.hk_model.proofs.lowered_law.Goals as goal

pub returns : goal.returns
returns c = record {
  part = lowered;
  joined = lowered_join;
}
