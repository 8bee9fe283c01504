use Rattle.hk_model.proofs.Replica.Past.{past_passes, past_replies, taken_past, pruned_later, joined_later}
use Rattle.hk_model.proofs.past_law.Goals as goal

pub returns : goal.returns
returns c = record {
  passes = past_passes;
  replies = past_replies;
  taken = taken_past;
  pruned = pruned_later;
  joined = joined_later;
}
