use Rattle.hk_model.proofs.Replica.Past.{history_past, joined_past, pruned_past}
use Rattle.hk_model.proofs.history_past_law.Goals as goal

pub returns : goal.returns
returns c = record {
  represents = history_past;
  joined = joined_past;
  pruned = pruned_past;
}
