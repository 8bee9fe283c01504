use Rattle.hk_state.proofs.Replicas.{new_replica}
use Rattle.hk_state.proofs.replica.ReplicaState.new.Goals as goal

pub invariant_of-result : goal.invariant_of-result
invariant_of-result c = rw (c.zero.ensures, c.new-2.ensures, c.in_ok-got.ensures.ok) (new_replica c.args.config)
