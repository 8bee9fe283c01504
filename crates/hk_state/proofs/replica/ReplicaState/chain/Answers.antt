use Rattle.hk_state.proofs.replica.ReplicaState.chain.Goals as goal

pub returns-clause-none : goal.returns-clause-none
returns-clause-none c = rw (← c.self.view_is) c.chain.ensures.none
