-- A run, with what each event may be told.
use Rattle.std.proofs.Common.{◌≡◌, sym, ap, subst, ℕ, List, [], ◌∷◌, ◌++◌, append_assoc, append-nil, inl, inr}
use Rattle.hk_types.specs.Values.{ConfigValue}
use Rattle.hk_model.specs.Replica.Content.{Content}
use Rattle.hk_model.specs.World.Worlds.{World, Replica, EventValue, ToldValue, Agree, step, by_items, new_items}
use Rattle.hk_laws.specs.Calls.{StepsOf}
use Rattle.hk_laws.specs.Running.{Running}
use Rattle.hk_laws.specs.Runs.{TellsEach}

-- what may be told for the events that are left, from these items, may be told for all events after what was told
abbrev pub MayFollow : ConfigValue → ℕ → List EventValue → List ToldValue → List EventValue → World Replica → Type 0
MayFollow config replicas events done left items = (outcome : List ToldValue) → TellsEach config items left outcome → TellsEach config (new_items replicas) events (done ++ outcome)

-- the world represents items from which it may go on so
abbrev pub Stands : ConfigValue → ℕ → List EventValue → List ToldValue → List EventValue → World Content → Type 0
Stands config replicas events done left w = (items : World Replica) × Agree config items w × MayFollow config replicas events done left items

-- at the beginning all are left
pub all_left : (config : ConfigValue) (replicas : ℕ) (events : List EventValue) → MayFollow config replicas events [] events (new_items replicas)
all_left config replicas events outcome h = h

one_told : (replicas : ℕ) (events : List EventValue) (done : List ToldValue) (e : EventValue) (left : List EventValue) (old new : Running) (t : ToldValue) → StepsOf old new e t →
    Stands old.config replicas events done (e ∷ left) old.world → Stands old.config replicas events (done ++ t ∷ []) left new.world
one_told replicas events done e left old new t steps h =
    elim (steps h.0 h.1) [
      | inl lacks ↦ (h.0, subst (λ (r : Running). Agree old.config h.0 r.world) (sym lacks.0.1) h.1, λ outcome k. with_it outcome (h.2 (t ∷ outcome) (inl (lacks.0.0, lacks.1, lacks.2, k))))
      | inr told ↦ ((step (by_items old.config) old.config h.0 e).1, told.2, λ outcome k. with_it outcome (h.2 (t ∷ outcome) (inr (told.0, k))))
    ]
  where
    with_it : (outcome : List ToldValue) → TellsEach old.config (new_items replicas) events (done ++ t ∷ outcome) → TellsEach old.config (new_items replicas) events ((done ++ t ∷ []) ++ outcome)
    with_it outcome k = subst (TellsEach old.config (new_items replicas) events) (sym (append_assoc done (t ∷ []) outcome)) k

-- one more event is told
pub stands_on : (config : ConfigValue) (replicas : ℕ) (events : List EventValue) (done : List ToldValue) (e : EventValue) (left : List EventValue) (old new : Running) (t : ToldValue) → old.config ≡ config → StepsOf old new e t →
    Stands config replicas events done (e ∷ left) old.world → Stands config replicas events (done ++ t ∷ []) left new.world
stands_on config replicas events done e left old new t same steps h =
    subst (λ (c : ConfigValue). Stands c replicas events (done ++ t ∷ []) left new.world) same
    (one_told replicas events done e left old new t steps (subst (λ (c : ConfigValue). Stands c replicas events done (e ∷ left) old.world) (sym same) h))

-- at the end none is left
pub each_told : (config : ConfigValue) (replicas : ℕ) (events : List EventValue) (done : List ToldValue) (w : World Content) → Stands config replicas events done [] w → TellsEach config (new_items replicas) events done
each_told config replicas events done w h = subst (TellsEach config (new_items replicas) events) (append-nil done) (h.2 [] tt)
