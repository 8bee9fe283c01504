use Rattle.std.proofs.Common.{◌≡◌, refl, sym, ap, ◌∙◌, None, Some, Err, List, get_or}
use Rattle.hk_types.specs.declared.faults.Refusal.TheVariants.{Memory}
use Rattle.hk_log.specs.declared.item.Item.{Item}
use Rattle.hk_model.specs.World.Worlds.{both, at_number, all_numbered, outcome_of_batch}
use Rattle.hk_model.specs.Replica.Replicas.{empty_content}
use Rattle.hk_model.specs.Replica.Rules.{gather_result}
use Rattle.hk_laws.specs.Calls.{act_on_one_of}
use Rattle.hk_laws.proofs.AtNumber.{all_found, one_missing, both_none}
use Rattle.hk_laws.proofs.OneReplicaActs.{acts_on, acts_not}
use Rattle.hk_acting.proofs.OutOfMemory.{batch_first}
use Rattle.hk_laws.proofs.among.batch.Goals as goal

pub returns-then-not-all_there : goal.returns-then-not-all_there
returns-then-not-all_there c =
    let none = one_missing c.args.items.now c.args.numbers.now (sym c.if-not-all_there.ensures) in
    let missing : both (at_number c.args.replicas.now c.args.replica) (all_numbered c.args.items.now c.args.numbers.now) ≡ None = ap (λ x. both (at_number c.args.replicas.now c.args.replica) x) none ∙ both_none (at_number c.args.replicas.now c.args.replica) in (
      sym (ap (λ x. (act_on_one_of c.args.replicas.now c.args.replica x (λ p. outcome_of_batch p.0 (gather_result c.args.config p.1))).0) missing),
      sym (ap (λ x. (act_on_one_of c.args.replicas.now c.args.replica x (λ p. outcome_of_batch p.0 (gather_result c.args.config p.1))).1) missing),
      refl,
    )

pub returns : goal.returns
returns c =
    let all = all_found c.args.items.now c.args.numbers.now (sym c.if-not-all_there.ensures) in
    acts_on c.args.replicas.now c.args.replica c.in-Some.place c.in-Some.ensures.0 c.in-Some.ensures.1
    (all_numbered c.args.items.now c.args.numbers.now) c.deref.result.now (λ p. outcome_of_batch p.0 (gather_result c.args.config p.1))
    c.index-replicas-place.result c.batch.new.state c.batch.result
    (all ∙ ap (λ (xs : List Item). Some xs) (sym c.in-Ok.ensures ∙ sym c.deref.ensures.value)) c.batch.ensures

pub returns-in-Err : goal.returns-in-Err
returns-in-Err c =
    let rs = c.args.replicas.now in
    let d = empty_content c.args.config in
    let all = all_found c.args.items.now c.args.numbers.now (sym c.if-not-all_there.ensures) in
    acts_not rs c.args.replica c.in-Some.place c.in-Some.ensures.0 c.in-Some.ensures.1
    (all_numbered c.args.items.now c.args.numbers.now) _ (λ p. outcome_of_batch p.0 (gather_result c.args.config p.1)) d (Err Memory) all
    (refl, refl, batch_first (get_or rs c.in-Some.place d) c.args.config _)
