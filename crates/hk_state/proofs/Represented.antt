-- A state that represents items of a history goes on to.
use Rattle.std.proofs.Common.{◌≡◌, sym, ap, ◌∙◌, subst, ℕ, max, ◌∷◌, Result, Ok, Err, inl, inr}
use Rattle.hk_types.specs.declared.faults.Refusal.{Refusal}
use Rattle.hk_log.specs.declared.item.Item.{Item}
use Rattle.hk_model.specs.declared.took.Took.{Took}
use Rattle.hk_model.specs.Replica.Content.{Content}
use Rattle.hk_model.specs.Replica.Replicas.{Represents}
use Rattle.hk_model.proofs.Replica.Steps.{absorb_step, prune_step}
use Rattle.hk_state.specs.Calls.{Absorbs, AbsorbsOf, Prunes, PrunesOf}

pub inside : {A : Type 0} (a b : A) → ◌≡◌ {A = Result A Refusal} (Ok a) (Ok b) → a ≡ b
inside a b e = cc

pub has_conflict_with : {A : Type 0} (a : A) (why : Refusal) → ◌≡◌ {A = Result A Refusal} (Ok a) (Err why) → ⊥
has_conflict_with a why e = cc

pub absorbs_of : (old new : Content) (item : Item) (r : Result Took Refusal) → Absorbs old new item r → AbsorbsOf old new item r
absorbs_of old new item (Ok took) gave config history items horizon is represents of =
    let s = absorb_step config history is items horizon old represents item of in
    (subst (Represents config history (item ∷ items) horizon) (ap (λ (x : Took × Content). x.1) (inside _ _ (sym s.1 ∙ gave))) s.2, tt)
absorbs_of old new item (Err why) gave config history items horizon is represents of =
    let s = absorb_step config history is items horizon old represents item of in (
      tt,
      elim gave.1 [
        | inl e ↦ absurd (has_conflict_with _ why (sym s.1 ∙ e))
        | inr m ↦ m.0
      ],
    )

pub prunes_of : (old new : Content) (h : ℕ) (r : Result (Unit {0}) Refusal) → Prunes old new h r → PrunesOf old new h r
prunes_of old new h (Ok done) gave config history items horizon represents within =
    let s = prune_step config history items horizon h old represents within in
    (subst (Represents config history items (max horizon h)) (inside _ _ (sym s.1 ∙ gave)) s.2, tt)
prunes_of old new h (Err why) gave config history items horizon represents within =
    let s = prune_step config history items horizon h old represents within in (
      tt,
      elim gave.1 [
        | inl e ↦ absurd (has_conflict_with _ why (sym s.1 ∙ e))
        | inr m ↦ m.0
      ],
    )
