use Rattle.std.proofs.Common.{true, ◌≡◌, refl, sym, ap, subst, get_or, Ok, Result, ℕ, ◌+◌, ◌==◌, not, arith}
use Rattle.std.proofs.lemmas.Bool.Decides.{nat_tests}
use Rattle.hk_types.specs.declared.faults.Refusal.{Refusal}
use Rattle.hk_model.specs.Replica.Content.{Content}
use Rattle.hk_model.specs.World.Worlds.{at_number, outcome_by}
use Rattle.hk_model.specs.Replica.Rules.{merge_result}
use Rattle.hk_acting.specs.Telling.{Gives, is_memory_outcome}
use Rattle.hk_laws.proofs.AtNumber.{numbered_at}
use Rattle.hk_laws.proofs.OneReplicaActs.{acts_not}
use Rattle.hk_acting.proofs.OutOfMemory.{on_err}
use Rattle.hk_laws.proofs.among.merge.Goals as goal

pub returns-then-target-source-clause-merges : goal.returns-then-target-source-clause-merges
returns-then-target-source-clause-merges c =
    let rs = c.args.replicas.now in
    let a = get_or rs c.in-Some.target c.index-replicas-target.result in
    let b = get_or rs c.in-Some-place_of.source c.index-replicas-target.result in
    let one : a ≡ b = ap (λ n. get_or rs n c.index-replicas-target.result) c.if-target-source.true in
    acts_not rs c.args.to c.in-Some.target c.in-Some.ensures.0 c.in-Some.ensures.1
    (at_number rs c.args.from) b (λ p. outcome_by p.0 (merge_result p.0 p.1)) c.index-replicas-target.result (Ok c.same.result)
    (numbered_at rs c.in-Some-place_of.source c.args.from c.index-replicas-target.result c.in-Some-place_of.ensures.0 c.in-Some-place_of.ensures.1)
    (subst (λ (x : Content). Gives (outcome_by a (merge_result a x)) a a (Ok c.same.result)) one
    (subst (λ (x : Result Content Refusal). Gives (outcome_by a x) a a (Ok c.same.result)) (sym c.same.ensures.whole) (c.same.ensures.outcome, refl, ap is_memory_outcome c.same.ensures.outcome)))

pub returns-clause-takes : goal.returns-clause-takes
returns-clause-takes c = on_err c.merge_apart.result (apart c.args.to c.args.from c.in-Some.target c.in-Some-place_of.source c.in-Some.ensures.0 c.in-Some-place_of.ensures.0 c.if-target-source.false)
  where
    apart : (to from i j : ℕ) → i + 1 ≡ to → j + 1 ≡ from → (i ≡ j → ⊥) → not (to == from) ≡ true
    apart to from i j e f h = grind (arith, nat_tests)
