use Rattle.hk_model.proofs.Replica.Touches.{prune_untouched, honest_prune}
use Rattle.hk_model.proofs.Replica.TouchingJoins.{join_untouched, honest_join}
use Rattle.hk_model.proofs.touched_past_law.Goals as goal

pub returns : goal.returns
returns c = record {
  pruned = prune_untouched;
  joined = join_untouched;
  honest_prune = honest_prune;
  honest_join = honest_join;
}
