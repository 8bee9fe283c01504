use Rattle.hk_model.specs.World.Worlds.{outcome_by}
use Rattle.hk_model.specs.Replica.Rules.{prune_result}
use Rattle.hk_laws.proofs.OneReplicaActs.{acts_alone, prune_takes}
use Rattle.hk_laws.proofs.among.prune.Goals as goal

pub returns-clause-prunes : goal.returns-clause-prunes
returns-clause-prunes c =
    acts_alone c.args.replicas.now c.args.replica c.in-Some.place c.in-Some.ensures.0 c.in-Some.ensures.1
    (λ r. outcome_by r (prune_result r c.args.horizon)) c.index-replicas-place.result c.prune.new.state c.prune.result c.prune.ensures.gives

pub returns-clause-takes : goal.returns-clause-takes
returns-clause-takes c =
    prune_takes c.args.replicas.now c.args.replica c.in-Some.place c.in-Some.ensures.0 c.in-Some.ensures.1
    c.args.horizon c.index-replicas-place.result c.prune.result c.prune.ensures.above
