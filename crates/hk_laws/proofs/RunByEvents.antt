-- A run, event by event.
use Rattle.std.proofs.Common.{◌≡◌, refl, sym, ap, ◌∙◌, subst, ℕ, true, cond, not, List, [], ◌∷◌, ◌++◌, append_assoc, inl, inr}
use Rattle.hk_types.specs.Values.{ConfigValue}
use Rattle.hk_model.specs.Replica.Content.{Content}
use Rattle.hk_model.specs.World.Worlds.{World, EventValue, ToldValue, run, step, by_items, by_contents, new_items, new_contents}
use Rattle.hk_model.proofs.World.Runs.{run_law_proof}
use Rattle.hk_acting.specs.Telling.{is_memory_outcome}
use Rattle.hk_laws.specs.Calls.{Steps}
use Rattle.hk_laws.specs.Running.{Running}
use Rattle.hk_laws.specs.Runs.{answers, answered_events}

-- answers for the events that are left, after those that were told, make answers for all events
abbrev pub Carries : ConfigValue → ℕ → List EventValue → List ToldValue → List EventValue → World Content → Type 0
Carries config replicas events done left w =
    (outcome : List ToldValue) → answers outcome ≡ run (by_contents config) config w (answered_events left outcome) → answers (done ++ outcome) ≡ run (by_contents config) config (new_contents config replicas) (answered_events events (done ++ outcome))

-- at the beginning all are left
pub carries_all : (config : ConfigValue) (replicas : ℕ) (events : List EventValue) → Carries config replicas events [] events (new_contents config replicas)
carries_all config replicas events outcome h = h

heard : (config : ConfigValue) (old new : Running) (e : EventValue) (t : ToldValue) (left : List EventValue) (outcome : List ToldValue) → old.config ≡ config → Steps old new e t →
    answers outcome ≡ run (by_contents config) config new.world (answered_events left outcome) → answers (t ∷ outcome) ≡ run (by_contents config) config old.world (answered_events (e ∷ left) (t ∷ outcome))
heard config old new e t left outcome same (inl lacks) h =
    let lack : is_memory_outcome t ≡ true = ap is_memory_outcome lacks.0.0 in
    ap (λ b. cond (not b) (t ∷ answers outcome) (answers outcome)) lack
    ∙ h
    ∙ ap (λ (r : Running). run (by_contents config) config r.world (answered_events left outcome)) lacks.0.1
    ∙ sym (ap (λ b. run (by_contents config) config old.world (cond b (answered_events left outcome) (e ∷ answered_events left outcome))) lack)
heard config old new e t left outcome same (inr s) h =
    ap (λ b. cond (not b) (t ∷ answers outcome) (answers outcome)) s.2
    ∙ (λ i. (s.0 ∙ ap (λ (c : ConfigValue). (step (by_contents c) c old.world e).0) same) i ∷ (h ∙ ap (λ (r : Running). run (by_contents config) config r.world (answered_events left outcome)) s.1 ∙ ap (λ (c : ConfigValue). run (by_contents config) config (step (by_contents c) c old.world e).1 (answered_events left outcome)) same) i)
    ∙ sym (ap (λ b. run (by_contents config) config old.world (cond b (answered_events left outcome) (e ∷ answered_events left outcome))) s.2)

-- one more event is told
pub carries_on : (config : ConfigValue) (replicas : ℕ) (events : List EventValue) (done : List ToldValue) (e : EventValue) (left : List EventValue) (old new : Running) (t : ToldValue) → old.config ≡ config → Steps old new e t →
    Carries config replicas events done (e ∷ left) old.world → Carries config replicas events (done ++ t ∷ []) left new.world
carries_on config replicas events done e left old new t same s before outcome h =
    subst (λ (ts : List ToldValue). answers ts ≡ run (by_contents config) config (new_contents config replicas) (answered_events events ts)) (sym (append_assoc done (t ∷ []) outcome))
    (before (t ∷ outcome) (heard config old new e t left outcome same s h))

-- at the end none is left
pub carried : (config : ConfigValue) (replicas : ℕ) (events : List EventValue) (done : List ToldValue) (w : World Content) → Carries config replicas events done [] w → answers done ≡ run (by_items config) config (new_items replicas) (answered_events events done)
carried config replicas events done w c =
    subst (λ (ts : List ToldValue). answers ts ≡ run (by_contents config) config (new_contents config replicas) (answered_events events ts)) (no_more done) (c [] refl)
    ∙ sym (run_law_proof config replicas (answered_events events done))
  where
    no_more : (ts : List ToldValue) → ts ++ [] ≡ ts
    no_more [] = refl
    no_more (t ∷ ts) = ap (λ l. t ∷ l) (no_more ts)

pub same_config : (old new : Running) (e : EventValue) (t : ToldValue) → Steps old new e t → new.config ≡ old.config
same_config old new e t (inl lacks) = ap (λ (r : Running). r.config) lacks.0.1
same_config old new e t (inr s) = ap (λ (r : Running). r.config) s.1
