-- One replica of a list acts.
use Rattle.std.proofs.Common.{◌≡◌, sym, ap, ◌∙◌, subst, ℕ, ◌+◌, ◌<◌, true, length, get_or, set, Option, Some, List, Result, Ok, Err, OnErr}
use Rattle.std.proofs.lemmas.Bool.{lt-ltb}
use Rattle.hk_types.specs.declared.faults.Refusal.{Refusal}
use Rattle.hk_model.specs.declared.told.Told.{Told}
use Rattle.hk_model.specs.Replica.Content.{Content}
use Rattle.hk_model.specs.World.Worlds.{ToldValue, both, at_number}
use Rattle.hk_model.specs.World.Worlds.EventValue.{Prune}
use Rattle.hk_acting.specs.Telling.{Gives}
use Rattle.hk_laws.specs.Calls.{Acts, horizons_of, is_above, takes_memory_at}
use Rattle.hk_laws.proofs.AtNumber.{mapped_at, numbered_at, renumbered_at, set_same}

module _ (rs : List Content) (k i : ℕ) (e : i + 1 ≡ k) (l : i < length rs) where
  -- the replica at a place is the one with the next number
  pub acts_there : {X : Type 0} (x : Option X) (v : X) (act : X → ToldValue × Content) (d new : Content) (result : Result Told Refusal) →
      x ≡ Some v → Gives (act v) (get_or rs i d) new result → Acts rs (set rs i new) k x act result
  acts_there x v act d new result found gives = subst (λ y. Acts rs (set rs i new) k y act result) (sym found) (by result gives)
    where
      by : (r : Result Told Refusal) → Gives (act v) (get_or rs i d) new r → Acts rs (set rs i new) k (Some v) act r
      by (Ok outcome) g = (g.0, ap (set rs i) g.1 ∙ renumbered_at rs i k (act v).1 e l, g.2)
      by (Err why) g = (g.0, ap (set rs i) g.1 ∙ set_same rs i d l, g.2)

  -- it acts alone
  pub acts_alone : (act : Content → ToldValue × Content) (d new : Content) (result : Result Told Refusal) →
      Gives (act (get_or rs i d)) (get_or rs i d) new result → Acts rs (set rs i new) k (at_number rs k) act result
  acts_alone act d new result gives = acts_there (at_number rs k) (get_or rs i d) act d new result (numbered_at rs i k d e l) gives

  -- it acts on what was found
  pub acts_on : {Y : Type 0} (x : Option Y) (y : Y) (act : Content × Y → ToldValue × Content) (d new : Content) (result : Result Told Refusal) →
      x ≡ Some y → Gives (act (get_or rs i d, y)) (get_or rs i d) new result → Acts rs (set rs i new) k (both (at_number rs k) x) act result
  acts_on x y act d new result found gives =
      acts_there (both (at_number rs k) x) (get_or rs i d, y) act d new result (λ j. both (numbered_at rs i k d e l j) (found j)) gives

  -- it acts on what was found, and stays as it was
  pub acts_not : {Y : Type 0} (x : Option Y) (y : Y) (act : Content × Y → ToldValue × Content) (d : Content) (result : Result Told Refusal) →
      x ≡ Some y → Gives (act (get_or rs i d, y)) (get_or rs i d) (get_or rs i d) result → Acts rs rs k (both (at_number rs k) x) act result
  acts_not x y act d result found gives =
      subst (λ ys. Acts rs ys k (both (at_number rs k) x) act result) (set_same rs i d l) (acts_on x y act d (get_or rs i d) result found gives)

  -- a prune above the horizon that is there may take memory
  pub prune_takes : (h : ℕ) (d : Content) (result : Result Told Refusal) →
      OnErr result ((get_or rs i d).horizon < h) → OnErr result (takes_memory_at (horizons_of rs) (Prune k h) ≡ true)
  prune_takes h d (Ok outcome) above = tt
  prune_takes h d (Err why) above =
      ap (λ (x : Option ℕ). is_above x h) (mapped_at (λ (c : Content). c.horizon) rs i k d e l) ∙ lt-ltb (get_or rs i d).horizon h above
