use Rattle.hk_state.proofs.Represented.{prunes_of}
use Rattle.hk_state.proofs.StayingAnswers.{prune_stays}
use Rattle.hk_state.proofs.replica.ReplicaState.prune.Goals as goal

pub returns-clause-represents : goal.returns-clause-represents
returns-clause-represents c = prunes_of c.args.self.now c.raise_horizon.new.self c.args.time c.raise_horizon.result c.raise_horizon.ensures.gives

pub returns-clause-stays : goal.returns-clause-stays
returns-clause-stays c = prune_stays c.args.self.now c.raise_horizon.new.self c.args.time c.raise_horizon.result c.horizon-lawful.ensures.lawful c.raise_horizon.ensures.gives
