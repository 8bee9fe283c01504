-- What a run answers.
use Rattle.std.specs.Prelude.{◌≡◌, ◌⊎◌, ℕ, true, not, List, [], ◌∷◌, filter, map, length, if◌then◌else◌}
use Rattle.hk_types.specs.Values.{ConfigValue}
use Rattle.hk_model.specs.declared.event.Event.{Event}
use Rattle.hk_model.specs.declared.told.Told.{Told}
use Rattle.hk_model.specs.World.Events.{event_seen, told_seen}
use Rattle.hk_model.specs.World.Worlds.{World, Replica, EventValue, ToldValue, step, run, by_items, new_items}
use Rattle.hk_types.specs.declared.faults.Refusal.TheVariants.{Memory}
use Rattle.hk_model.specs.World.Worlds.ToldValue.{Refused}
use Rattle.hk_acting.specs.Telling.{is_memory_outcome}
use Rattle.hk_laws.specs.Calls.{item_horizons, may_lack, takes_memory_at}

-- the events that were not told that memory ran out
abbrev pub answered_events : List EventValue → List ToldValue → List EventValue
answered_events [] outcome = []
answered_events (e ∷ events) [] = []
answered_events (e ∷ events) (t ∷ outcome) = if is_memory_outcome t then answered_events events outcome else e ∷ answered_events events outcome

-- what was told of them
abbrev pub answers : List ToldValue → List ToldValue
answers outcome = filter (λ t. not (is_memory_outcome t)) outcome

-- each event is answered; and without those that were told that memory ran out, the answers are those of the run
-- over items
pub record Runs (config : ConfigValue) (replicas : ℕ) (events : List EventValue) (outcome : List ToldValue) : Type 0 where
  pub as_many : length outcome ≡ length events
  pub same : answers outcome ≡ run (by_items config) config (new_items replicas) (answered_events events outcome)

-- Each event told what the definition on items gives, and left the world so; or it was told that memory ran out, where
-- it may take some, and that definition refuses nothing, or a transaction for what it writes, and left the world as it
-- was.
abbrev pub TellsEach : ConfigValue → World Replica → List EventValue → List ToldValue → Type 0
TellsEach config items [] [] = Unit {0}
TellsEach config items (e ∷ events) (t ∷ outcome) =
    let after = step (by_items config) config items e in
    ((t ≡ Refused Memory) × (may_lack after.0 ≡ true) × (takes_memory_at (item_horizons items.replicas) e ≡ true)
    × TellsEach config items events outcome)
    ⊎ ((t ≡ after.0) × TellsEach config after.1 events outcome)
TellsEach config items [] (t ∷ outcome) = ⊥
TellsEach config items (e ∷ events) [] = ⊥

-- so a new world with so many replicas runs
abbrev pub RunsNew : ConfigValue → ℕ → List Event → List Told → Type 0
RunsNew config replicas events outcome = Runs config replicas (map event_seen events) (map told_seen outcome)

-- so each event is told in a new world with so many replicas
abbrev pub TellsNew : ConfigValue → ℕ → List Event → List Told → Type 0
TellsNew config replicas events outcome = TellsEach config (new_items replicas) (map event_seen events) (map told_seen outcome)
