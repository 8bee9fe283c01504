-- One replica of a list is merged into another one.
use Rattle.std.proofs.Common.{true, ◌≡◌, refl, sym, ap, ◌∙◌, subst, ℕ, ◌+◌, ◌<◌, length, get_or, set, List, ◌++◌, Result, arith}
use Rattle.std.proofs.Math.ListN.{length-append}
use Rattle.hk_types.specs.declared.faults.Refusal.{Refusal}
use Rattle.hk_model.specs.declared.told.Told.{Told}
use Rattle.hk_model.specs.Replica.Content.{Content}
use Rattle.hk_model.specs.Replica.Rules.{merge_result}
use Rattle.hk_model.specs.World.Worlds.{both, at_number, outcome_by}
use Rattle.hk_acting.specs.Telling.{Gives}
use Rattle.hk_laws.specs.Calls.{Acts}
use Rattle.hk_laws.proofs.AtNumber.{numbered_at, get_low, set_low, get_high, set_high}
use Rattle.hk_laws.proofs.OneReplicaActs.{acts_on}

abbrev pub merges_among : List Content → ℕ → ℕ → List Content → Result Told Refusal → Type 0
merges_among rs to from after result = Acts rs after (to + 1) (both (at_number rs (to + 1)) (at_number rs (from + 1))) (λ p. outcome_by p.0 (merge_result p.0 p.1)) result

module _ (low high : List Content) (d e new : Content) (result : Result Told Refusal) where
  -- the target comes first
  pub into_low : (to from : ℕ) → length low ≡ from → to < length low → 0 < length high → Gives (outcome_by (get_or low to d) (merge_result (get_or low to d) (get_or high 0 e))) (get_or low to d) new result → merges_among (low ++ high) to from (set low to new ++ high) result
  into_low to from size l some gives =
      let whole : to < length (low ++ high) = omega (arith, length-append low high) in
      let other : from < length (low ++ high) = omega (arith, length-append low high) in
      let a : get_or low to d ≡ get_or (low ++ high) to d = sym (get_low high low to d l) in
      let b : get_or high 0 e ≡ get_or (low ++ high) from e = sym (get_high high low e) ∙ ap (λ n. get_or (low ++ high) n e) size in
      subst (λ ys. merges_among (low ++ high) to from ys result) (set_low high low to new l)
      (acts_on (low ++ high) (to + 1) to refl whole (at_number (low ++ high) (from + 1)) (get_or (low ++ high) from e) (λ p. outcome_by p.0 (merge_result p.0 p.1)) d new result
      (numbered_at (low ++ high) from (from + 1) e refl other)
      (subst (λ (x : Content). Gives (outcome_by (get_or (low ++ high) to d) (merge_result (get_or (low ++ high) to d) x)) (get_or (low ++ high) to d) new result) b
      (subst (λ (x : Content). Gives (outcome_by x (merge_result x (get_or high 0 e))) x new result) a gives)))

  -- the target comes last
  pub into_high : (to from : ℕ) → length low ≡ to → from < length low → 0 < length high → Gives (outcome_by (get_or high 0 d) (merge_result (get_or high 0 d) (get_or low from e))) (get_or high 0 d) new result → merges_among (low ++ high) to from (low ++ set high 0 new) result
  into_high to from size l some gives =
      let whole : to < length (low ++ high) = omega (arith, length-append low high) in
      let other : from < length (low ++ high) = omega (arith, length-append low high) in
      let a : get_or high 0 d ≡ get_or (low ++ high) to d = sym (get_high high low d) ∙ ap (λ n. get_or (low ++ high) n d) size in
      let b : get_or low from e ≡ get_or (low ++ high) from e = sym (get_low high low from e l) in
      subst (λ ys. merges_among (low ++ high) to from ys result) (ap (λ n. set (low ++ high) n new) (sym size) ∙ set_high high low new)
      (acts_on (low ++ high) (to + 1) to refl whole (at_number (low ++ high) (from + 1)) (get_or (low ++ high) from e) (λ p. outcome_by p.0 (merge_result p.0 p.1)) d new result
      (numbered_at (low ++ high) from (from + 1) e refl other)
      (subst (λ (x : Content). Gives (outcome_by (get_or (low ++ high) to d) (merge_result (get_or (low ++ high) to d) x)) (get_or (low ++ high) to d) new result) b
      (subst (λ (x : Content). Gives (outcome_by x (merge_result x (get_or low from e))) x new result) a gives)))
