-- What a change does to the published list and to what waits.
use Rattle.std.specs.Prelude.{◌≡◌, ◌≢◌, ℕ, Bool, ◌+◌, ◌<◌, ◌⊎◌, true, false, List, [], ◌∷◌, ◌++◌, length, Option, Some, None, Result, Ok, Err, MatchResult}
use Rattle.hk_types.specs.declared.faults.Refusal.{Refusal}
use Rattle.hk_types.specs.declared.faults.Refusal.TheVariants.{Conflict, Unpublished, Memory}
use Rattle.hk_oplog.specs.declared.op.Op.{Op}
use Rattle.hk_oplog.specs.declared.op.Hold.{Hold}
use Rattle.hk_oplog.specs.declared.op.NodeKind.{NodeKind}
use Rattle.hk_oplog.specs.declared.op.Op.TheVariants.{Hold as HoldAt, Prune as PruneTo, Release}
use Rattle.hk_oplog.specs.Lists.{hold_times, last_of}
use Rattle.hk_oplog.specs.Replay.{replay, refusal_of, is_legal, IsListOf}

-- the published list, and what waits: at most one operation
abbrev pub Lists : Type 0
Lists = List Op × List Op

-- all operations
abbrev pub all_of : Lists → List Op
all_of lists = lists.0 ++ lists.1

-- what waited was published, and then nothing waits
abbrev pub IsCaughtUp : Lists → Lists → Type 0
IsCaughtUp old new = new ≡ (all_of old, [])

-- the operation follows all others, and nothing waits
abbrev pub IsMade : Lists → Op → Lists → Type 0
IsMade old op new = new ≡ (all_of old ++ op ∷ [], [])

-- the operation follows all others, and waits
abbrev pub IsWaiting : Lists → Op → Lists → Type 0
IsWaiting old op new = new ≡ (all_of old, op ∷ [])

-- a conflict, at a guarded node or at another: a test found it, and nothing changed but that what waited was published; or it
-- was met, and the node is damaged
abbrev pub RefusesConflict : Bool → Lists → Op → Lists → Type 0
RefusesConflict true old op new = (refusal_of (replay (all_of old)) op ≡ Some Conflict) × IsCaughtUp old new
RefusesConflict false old op new = (refusal_of (replay (all_of old)) op ≡ None) × IsMade old op new × ((replay (all_of old ++ op ∷ [])).damaged ≡ true)

-- a refusal of a change: memory ran out, with nothing changed where something waited and could not be published, else
-- once its tests had passed; the operation waits, and has the number that is named; a conflict; or one of its other tests
abbrev pub Refuses : Lists → Op → Refusal → Lists → Type 0
Refuses old op Memory new = ((0 < length old.1) × (new ≡ old)) ⊎ ((refusal_of (replay (all_of old)) op ≡ None) × IsCaughtUp old new)
Refuses old op (Unpublished n) new = (refusal_of (replay (all_of old)) op ≡ None) × IsWaiting old op new × (n ≡ length (all_of old) + 1)
Refuses old op Conflict new = RefusesConflict (replay (all_of old)).guarded old op new
Refuses old op why new = (refusal_of (replay (all_of old)) op ≡ Some why) × IsCaughtUp old new

-- a change: it was made, and the receipt names the list that ends with it; or it was refused
abbrev pub Changes : Lists → Op → Result (List Op) Refusal → Lists → Type 0
Changes old op (Ok told) new = (refusal_of (replay (all_of old)) op ≡ None) × IsMade old op new × (told ≡ all_of old ++ op ∷ []) × ((replay (all_of old ++ op ∷ [])).damaged ≡ false)
Changes old op (Err why) new = Refuses old op why new

-- what adding an operation that is not refused makes of a published list behind which nothing waits: the receipt names the
-- list that ends with it; memory ran out, and nothing changed; the operation waits, and has the number that is named; or the
-- node is damaged
abbrev pub AddsTo : List Op → Op → Result (List Op) Refusal → Lists → Type 0
AddsTo ops op (Ok told) new = (new ≡ (ops ++ op ∷ [], [])) × (told ≡ ops ++ op ∷ []) × ((replay (ops ++ op ∷ [])).damaged ≡ false)
AddsTo ops op (Err Memory) new = new ≡ (ops, [])
AddsTo ops op (Err (Unpublished n)) new = (new ≡ (ops, op ∷ [])) × (n ≡ length ops + 1)
AddsTo ops op (Err Conflict) new = (new ≡ (ops ++ op ∷ [], [])) × ((replay (ops ++ op ∷ [])).damaged ≡ true)
AddsTo ops op (Err why) new = ⊥

-- what a change answers at some legal list of such a node, whichever it was when the lock was got
abbrev pub ChangesSome : NodeKind → Op → Result (List Op) Refusal → Type 0
ChangesSome kind op result = (old : Lists) × (new : Lists) × IsListOf kind (all_of old) × Changes old op result new

-- a change that gives a number with the receipt, where it is answered so
abbrev pub CountedAs : (Result (List Op) Refusal → Type 0) → Result (ℕ × List Op) Refusal → Type 0
CountedAs Answers (Ok t) = Answers (Ok t.1)
CountedAs Answers (Err why) = Answers (Err why)

-- a publish: what waited was published, and the receipt names the whole list; or memory ran out with nothing changed,
-- where something waits
abbrev pub Publishes : Lists → Result (List Op) Refusal → Lists → Type 0
Publishes old (Ok told) new = IsCaughtUp old new × (told ≡ all_of old)
Publishes old (Err why) new = (why ≡ Memory) × (0 < length old.1) × (new ≡ old)

-- what a publish answers at some legal list of such a node
abbrev pub PublishesSome : NodeKind → Result (List Op) Refusal → Type 0
PublishesSome kind result = (old : Lists) × (new : Lists) × IsListOf kind (all_of old) × Publishes old result new

-- a hold of this time, with the number of the last hold of a list
abbrev pub IsGiven : Hold → ℕ → List Op → Type 0
IsGiven hold time ops = (hold.at ≡ time) × (hold.reader ≡ length (hold_times ops))

-- a hold is handed out where it waits to be published, as the last operation of this list, and with no other refusal
abbrev pub IsHandedOut : List Op → ℕ → Option Hold → Refusal → Type 0
IsHandedOut ops time (Some hold) why = (is_legal ops ≡ true) × (last_of ops ≡ Some (HoldAt time)) × IsGiven hold time ops × (why ≡ Unpublished (length ops))
IsHandedOut ops time None why = (n : ℕ) → why ≢ Unpublished n

-- a hold of this time was refused at some legal list of such a node, and was handed out where it waits behind that list
abbrev pub IsRefusedHold : NodeKind → ℕ → Option Hold → Refusal → Type 0
IsRefusedHold kind time hold why = (old : Lists) × (new : Lists) × IsListOf kind (all_of old) × Changes old (HoldAt time) (Err why) new × IsHandedOut (all_of new) time hold why

-- a hold is handed back with each refusal but one that says that its release waits
abbrev pub IsHandedBack : Hold → Option Hold → Refusal → Type 0
IsHandedBack hold (Some back) why = (back ≡ hold) × ((n : ℕ) → why ≢ Unpublished n)
IsHandedBack hold None why = (n : ℕ) × (why ≡ Unpublished n)

-- a prune to this time, which gives the horizon with the receipt
abbrev pub Prunes : Lists → ℕ → Result (ℕ × List Op) Refusal → Lists → Type 0
Prunes old time result new = MatchResult result (λ t. Changes old (PruneTo time) (Ok t.1) new) (λ why. Changes old (PruneTo time) (Err why) new)

-- a hold at this time, which gives the hold with the receipt, or with the refusal
abbrev pub HoldsAt : Lists → ℕ → Result (Hold × List Op) (Option Hold × Refusal) → Lists → Type 0
HoldsAt old time result new = MatchResult result (λ t. Changes old (HoldAt time) (Ok t.1) new) (λ e. Changes old (HoldAt time) (Err e.1) new)

-- a release of this hold, which may give it back with the refusal
abbrev pub ReleasesHold : Lists → Hold → Result (List Op) (Option Hold × Refusal) → Lists → Type 0
ReleasesHold old hold result new =
    MatchResult result (λ list. Changes old (Release hold.reader hold.at) (Ok list) new) (λ e. Changes old (Release hold.reader hold.at) (Err e.1) new)

-- the same at some legal list of such a node
abbrev pub PrunesSome : NodeKind → ℕ → Result (ℕ × List Op) Refusal → Type 0
PrunesSome kind time result = MatchResult result (λ t. ChangesSome kind (PruneTo time) (Ok t.1)) (λ why. ChangesSome kind (PruneTo time) (Err why))

abbrev pub HoldsSome : NodeKind → ℕ → Result (Hold × List Op) (Option Hold × Refusal) → Type 0
HoldsSome kind time result = MatchResult result (λ t. ChangesSome kind (HoldAt time) (Ok t.1)) (λ e. IsRefusedHold kind time e.0 e.1)

abbrev pub ReleasesSome : NodeKind → Hold → Result (List Op) (Option Hold × Refusal) → Type 0
ReleasesSome kind hold result =
    MatchResult result (λ list. ChangesSome kind (Release hold.reader hold.at) (Ok list)) (λ e. ChangesSome kind (Release hold.reader hold.at) (Err e.1))
