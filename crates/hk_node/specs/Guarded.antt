-- What a taking of items answers.
use Rattle.std.specs.Prelude.{◌≡◌, ◌⊎◌, ◌<◌, ◌+◌, List, [], ◌∷◌, ◌++◌, length, Option, Some, None, Result, Ok, Err}
use Rattle.hk_types.specs.declared.faults.Refusal.{Refusal}
use Rattle.hk_types.specs.declared.faults.Refusal.TheVariants.{Memory, Unpublished}
use Rattle.hk_log.specs.declared.item.Item.{Item}
use Rattle.hk_delta.specs.Agreeing.{absorb_all}
use Rattle.hk_oplog.specs.declared.op.NodeKind.{NodeKind}
use Rattle.hk_oplog.specs.declared.op.Op.{Op}
use Rattle.hk_oplog.specs.Guarded.{damage_refusal, join_of_taken, take_refusal}
use Rattle.hk_oplog.specs.Replay.{replay, IsListOf}
use Rattle.hk_node.specs.Changes.{Lists, all_of, IsCaughtUp, IsMade, IsWaiting}

-- a refusal of a change that these tests refuse: memory ran out, with nothing changed where something waited and could not be
-- published, else once the first of the tests had passed; the operation waits, and has the number that is named; or it is that
-- of the tests
abbrev pub RefusesTested : Option Refusal → Option Refusal → Lists → Op → Refusal → Lists → Type 0
RefusesTested first tests old op Memory new = ((0 < length old.1) × (new ≡ old)) ⊎ ((first ≡ None) × IsCaughtUp old new)
RefusesTested first tests old op (Unpublished n) new = (tests ≡ None) × IsWaiting old op new × (n ≡ length (all_of old) + 1)
RefusesTested first tests old op why new = (tests ≡ Some why) × IsCaughtUp old new

-- a change that these tests refuse: it was made, and the receipt names the list that ends with it; or it was refused
abbrev pub ChangesTested : Option Refusal → Option Refusal → Lists → Op → Result (List Op) Refusal → Lists → Type 0
ChangesTested first tests old op (Ok told) new = (tests ≡ None) × IsMade old op new × (told ≡ all_of old ++ op ∷ [])
ChangesTested first tests old op (Err why) new = RefusesTested first tests old op why new

-- the node is damaged where it was before
abbrev pub IsAsSound : Lists → Lists → Type 0
IsAsSound old new = (replay (all_of new)).damaged ≡ (replay (all_of old)).damaged

-- the node holds what absorbing the items one after the other gives
abbrev pub HasTaken : Lists → List Item → Result (List Op) Refusal → Type 0
HasTaken old items (Ok told) = absorb_all (replay (all_of old)).content items ≡ Ok (replay told).content
HasTaken old items (Err why) = Unit {0}

abbrev pub TakesItems : Lists → List Item → Result (List Op) Refusal → Lists → Type 0
TakesItems old items result new =
    ChangesTested (damage_refusal (replay (all_of old))) (take_refusal (replay (all_of old)) items) old (join_of_taken (replay (all_of old)) items) result new
    × HasTaken old items result × IsAsSound old new

-- what a taking answers at some legal list of such a node, whichever it was when the lock was got
abbrev pub TakesSome : NodeKind → List Item → Result (List Op) Refusal → Type 0
TakesSome kind items result = (old : Lists) × (new : Lists) × IsListOf kind (all_of old) × TakesItems old items result new
