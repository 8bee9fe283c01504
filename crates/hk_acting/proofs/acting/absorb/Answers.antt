use Rattle.std.proofs.Common.{refl, ap, inl, inr, Result}
use Rattle.hk_types.specs.declared.faults.Refusal.{Refusal}
use Rattle.hk_model.specs.declared.took.Took.{Took}
use Rattle.hk_model.specs.Replica.Content.{Content}
use Rattle.hk_model.specs.Replica.Rules.{take_result}
use Rattle.hk_model.specs.World.Worlds.{outcome_of_take}
use Rattle.hk_acting.specs.Telling.{is_first_outcome}
use Rattle.hk_acting.proofs.OutOfMemory.{refusal_where}
use Rattle.hk_acting.proofs.acting.absorb.Goals as goal

pub returns-in-Err : goal.returns-in-Err
returns-in-Err c =
    let old = c.args.state.now in
    let outcome = c.in-Err.ensures.gives in
    refusal_where (outcome_of_take old) (take_result old c.args.item.now) old c.absorb.new.self c.in-Err.why c.refused.result (λ w. refl) outcome.0
    (elim outcome.1 [ inl e ↦ inl e | inr p ↦ inr (p.0, ap (λ (x : Result (Took × Content) Refusal). is_first_outcome (outcome_of_take old x).0) p.1.1) ]) c.refused.ensures
