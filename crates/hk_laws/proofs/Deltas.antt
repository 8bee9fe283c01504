-- What a delta tells.
use Rattle.std.proofs.Common.{◌≡◌, refl, sym, ap, ◌∙◌, subst, ℕ, ◌<◌, ◌≤◌, ◌⊎◌, true, false, cond, nat_lt, arith, Ok, Err, Result, true≢false, inl, inr, MatchResult}
use Rattle.std.proofs.lemmas.Bool.Decides.{nat_tests}
use Rattle.std.proofs.lemmas.Bool.{lt-ltb, le-ltb}
use Rattle.hk_types.specs.declared.faults.Refusal.{Refusal}
use Rattle.hk_types.specs.declared.faults.Refusal.TheVariants.{TooOld, Memory}
use Rattle.hk_model.specs.declared.told.Told.{Told}
use Rattle.hk_model.specs.World.Events.{told_seen}
use Rattle.hk_model.specs.Replica.Content.{Content}
use Rattle.hk_model.specs.Replica.Fragments.{FragmentValue, cut}
use Rattle.hk_model.specs.Replica.Rules.{join_result}
use Rattle.hk_model.specs.World.Worlds.{ToldValue, outcome_by, delta_join}
use Rattle.hk_model.specs.World.Worlds.ToldValue.{Refused}
use Rattle.hk_acting.specs.Telling.{Gives, is_memory, is_first_outcome, is_memory_outcome}

-- from the horizon on it is the join of what is cut
pub joins_cut : (a b : Content) (base : ℕ) (f : FragmentValue) → b.horizon ≤ base → f ≡ cut b base → outcome_by a (join_result a f) ≡ delta_join a b base
joins_cut a b base f l e = ap (λ x. outcome_by a (join_result a x)) e ∙ sym (ap (λ t. cond t (Refused (TooOld b.horizon), a) (outcome_by a (join_result a (cut b base)))) (le-ltb base b.horizon l))

-- below the horizon it is refused
pub too_old : (a b : Content) (base : ℕ) → base < b.horizon → delta_join a b base ≡ (Refused (TooOld b.horizon), a)
too_old a b base l = ap (λ t. cond t (Refused (TooOld b.horizon), a) (outcome_by a (join_result a (cut b base)))) (lt-ltb base b.horizon l)

-- a refused cut is told
pub refused_cut : (a b : Content) (base : ℕ) (why : Refusal) (result : Result Told Refusal) → is_first_outcome (delta_join a b base).0 ≡ false →
    ((base < b.horizon) × (why ≡ TooOld b.horizon)) ⊎ ((b.horizon ≤ base) × (why ≡ Memory)) → MatchResult result (λ outcome. (told_seen outcome ≡ Refused why) × (is_memory why ≡ false)) (λ e. (e ≡ Memory) × (why ≡ Memory)) → Gives (delta_join a b base) a a result
refused_cut a b base why (Ok outcome) free (inl p) m = subst (λ (x : ToldValue × Content). Gives x a a (Ok outcome)) (sym (too_old a b base p.0)) (m.0 ∙ ap Refused p.1, refl, ap is_memory_outcome m.0 ∙ m.1)
refused_cut a b base why (Ok outcome) free (inr p) m = absurd (true≢false (sym (ap is_memory p.1) ∙ m.1))
refused_cut a b base why (Err e) free p m = (m.0, refl, free)
