use Rattle.std.proofs.Common.{sym}
use Rattle.hk_model.specs.World.Worlds.{at_number, outcome_of_take}
use Rattle.hk_model.specs.Replica.Rules.{take_result}
use Rattle.hk_laws.proofs.OneReplicaActs.{acts_on}
use Rattle.hk_laws.proofs.among.absorb.Goals as goal

pub returns : goal.returns
returns c =
    acts_on c.args.replicas.now c.args.replica c.in-Some.place c.in-Some.ensures.0 c.in-Some.ensures.1
    (at_number c.args.items.now c.args.item) c.in-Some-numbered.item.now (λ p. outcome_of_take p.0 (take_result p.0 p.1))
    c.index-replicas-place.result c.absorb.new.state c.absorb.result (sym c.in-Some-numbered.ensures) c.absorb.ensures
