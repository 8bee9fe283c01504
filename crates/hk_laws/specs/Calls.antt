-- What calls on a world, and on one of its replicas, tell and leave.
use Rattle.std.specs.Prelude.{◌≡◌, ◌⊎◌, ◌==◌, ℕ, Bool, true, false, not, ◌||◌, nat_lt, if◌then◌else◌, List, map, Option, Some, None, Result, Ok, Err, MatchResult}
use Rattle.std.specs.FinMap as finmap
use Rattle.hk_types.specs.Values.{ConfigValue}
use Rattle.hk_model.specs.History.Rows.{row_key_cmp}
use Rattle.hk_model.specs.History.Histories.{History, commits, is_retired, last}
use Rattle.hk_model.specs.History.Commits.{writes_result}
use Rattle.hk_model.specs.declared.write_op.WriteOp.{WriteOp}
use Rattle.hk_types.specs.declared.faults.Refusal.{Refusal}
use Rattle.hk_types.specs.declared.faults.Refusal.TheVariants.{Gap, AheadOfMark, TooOld, NotYet, WriteConflict, NoRow, TwiceWritten, TooManyWrites, NoStream, ClockFull, Retired, NoSuch, Memory}
use Rattle.hk_model.specs.declared.query.Query.{Query}
use Rattle.hk_model.specs.declared.told.Told.{Told}
use Rattle.hk_model.specs.declared.took.Took.{Took}
use Rattle.hk_model.specs.declared.took.Took.TheVariants.{Taken, Repeated}
use Rattle.hk_model.specs.Replica.Content.{Content}
use Rattle.hk_model.specs.World.Events.{told_seen}
use Rattle.hk_model.specs.World.Worlds.{World, Replica, EventValue, ToldValue, Agree, asked_primary, at_number, with_at_number, step, by_items}
use Rattle.hk_model.specs.World.Worlds.EventValue.{Prune, Merge, FrontOf}
use Rattle.hk_model.specs.World.Worlds.ToldValue.{Refused, Fronted, Answered, Absorbed}
use Rattle.hk_query.specs.Memory.{takes_memory}
use Rattle.hk_primary.specs.Log.{PrimaryValue}
use Rattle.hk_acting.specs.Telling.{is_memory_outcome, is_repeated, is_first_outcome, Gives}
use Rattle.hk_laws.specs.Running.{Running, step_outcome}

-- the horizons of replicas
abbrev pub horizons_of : List Content → List ℕ
horizons_of replicas = map (λ c. c.horizon) replicas

-- the same of replicas that are kept as items
abbrev pub item_horizons : List Replica → List ℕ
item_horizons replicas = map (λ r. r.horizon) replicas

-- whether there is a horizon, and a time is above it
abbrev pub is_above : Option ℕ → ℕ → Bool
is_above None time = false
is_above (Some horizon) time = nat_lt horizon time

-- whether an event may take memory where the replicas have these horizons: a prune to at most its replica's horizon
-- takes none, nor does a merge of a replica with itself, nor a front
abbrev pub takes_memory_at : List ℕ → EventValue → Bool
takes_memory_at horizons (Prune replica time) = is_above (at_number horizons replica) time
takes_memory_at horizons (Merge to from) = not (to == from)
takes_memory_at horizons (FrontOf replica) = false
takes_memory_at horizons _ = true

-- what a primary tells that is asked at a time
abbrev pub asked_of : PrimaryValue → ℕ → Query → ToldValue
asked_of p time query = asked_primary p.config p.history time query

-- of these replicas the one with a number acts on what is there, or something is missing
abbrev pub act_on_one_of : {X : Type 0} → List Content → ℕ → Option X → (X → ToldValue × Content) → ToldValue × List Content
act_on_one_of replicas k None act = (Refused NoSuch, replicas)
act_on_one_of replicas k (Some x) act = ((act x).0, with_at_number replicas k (act x).1)

-- so acted the one with a number
abbrev pub Acts : {X : Type 0} → List Content → List Content → ℕ → Option X → (X → ToldValue × Content) → Result Told Refusal → Type 0
Acts old new k x act result = Gives (act_on_one_of old k x act) old new result

-- these writes make a transaction
abbrev pub IsBuilt : List WriteOp → Type 0
IsBuilt writes = (made : finmap.FinMap row_key_cmp WriteOp) × (writes_result finmap.empty writes ≡ Ok made)

-- why a transaction is refused whatever it writes, if it is: there is no such stream, or it is retired, or the
-- transaction reads above the last time
abbrev pub refusal_of_transaction : ConfigValue → History → ℕ → ℕ → Option Refusal
refusal_of_transaction config history stream read_at =
    if nat_lt stream 1 || nat_lt config.streams stream then Some NoStream
    else if is_retired history stream then Some (Retired stream)
    else if nat_lt (last (commits history)) read_at then Some (NotYet (last (commits history)))
    else None

-- an event turned out so, where memory may have run out whatever is expected
abbrev pub Turns : Running → Running → EventValue → Result Told Refusal → Type 0
Turns old new event (Ok outcome) = (told_seen outcome ≡ (step_outcome old event).0) × (new ≡ (step_outcome old event).1) × (is_memory_outcome (told_seen outcome) ≡ false)
Turns old new event (Err why) = (why ≡ Memory) × (new ≡ old)

-- so happened an event
abbrev pub Happens : Running → Running → EventValue → Result Told Refusal → Type 0
Happens old new event (Ok outcome) = (told_seen outcome ≡ (step_outcome old event).0) × (new ≡ (step_outcome old event).1) × (is_memory_outcome (told_seen outcome) ≡ false)
Happens old new event (Err why) =
    (why ≡ Memory) × (new ≡ old) × (is_first_outcome (step_outcome old event).0 ≡ false)
    × (takes_memory_at (horizons_of old.world.replicas) event ≡ true)

-- it was told that memory ran out, and nothing changed
abbrev pub Lacks : Running → Running → ToldValue → Type 0
Lacks old new outcome = (outcome ≡ Refused Memory) × (new ≡ old)

-- the event told and left what the definition on contents gives; or it was told that memory ran out, where the event may
-- take some, and the definition tells nothing that takes none, as a refusal that is tested before anything grows
abbrev pub Steps : Running → Running → EventValue → ToldValue → Type 0
Steps old new event outcome =
    (Lacks old new outcome × (is_first_outcome (step_outcome old event).0 ≡ false)
    × (takes_memory_at (horizons_of old.world.replicas) event ≡ true))
    ⊎ ((outcome ≡ (step_outcome old event).0) × (new ≡ (step_outcome old event).1) × (is_memory_outcome outcome ≡ false))

-- whether a transaction is refused for what it writes: by its writes, a conflict, a row that is not there, or a full clock
abbrev pub is_of_writes : Refusal → Bool
is_of_writes TwiceWritten = true
is_of_writes TooManyWrites = true
is_of_writes (WriteConflict table key at) = true
is_of_writes (NoRow table key) = true
is_of_writes ClockFull = true
is_of_writes _ = false

-- whether such a refusal is told, or what takes memory
abbrev pub may_lack : ToldValue → Bool
may_lack (Refused why) = is_of_writes why
may_lack (Fronted horizon readable) = false
may_lack (Answered a) = takes_memory a
may_lack (Absorbed took) = not (is_repeated took)
may_lack _ = true

-- where the replicas represent items, at their horizons, the event told what the definition on items gives, and
-- each replica represents its items after it; or it was told that memory ran out, where the event may take some, and that
-- definition tells what takes memory, or refuses a transaction for what it writes
abbrev pub StepsOf : Running → Running → EventValue → ToldValue → Type 0
StepsOf old new event outcome =
    (items : World Replica) → Agree old.config items old.world →
    let after = step (by_items old.config) old.config items event in
    (Lacks old new outcome × (may_lack after.0 ≡ true) × (takes_memory_at (item_horizons items.replicas) event ≡ true))
    ⊎ ((outcome ≡ after.0) × (new.config ≡ old.config) × Agree old.config after.1 new.world)
