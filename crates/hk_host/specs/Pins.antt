-- What comes of the holds of a host of a node.
use Rattle.std.specs.Prelude.{◌≡◌, ℕ, ◌<◌, List, length, Option, Some, None, Result, Err, MatchResult}
use mathlib.Core.List.{IsPrefix}
use Rattle.hk_types.specs.declared.faults.FormFault.TheVariants.{BadKind}
use Rattle.hk_types.specs.declared.faults.Refusal.{Refusal}
use Rattle.hk_types.specs.declared.faults.Refusal.TheVariants.{Form}
use Rattle.hk_doors.specs.declared.passes.Passes.{Passes}
use Rattle.hk_doors.specs.declared.passes.Passes.TheVariants.{All, Feeds, Readings}
use Rattle.hk_messages.specs.Replies.{Done, Refused}
use Rattle.hk_oplog.specs.declared.op.Hold.{Hold}
use Rattle.hk_oplog.specs.declared.op.NodeKind.{NodeKind}
use Rattle.hk_oplog.specs.declared.op.Op.{Op}
use Rattle.hk_oplog.specs.declared.op.Op.TheVariants.{Hold as HoldAt, Release}
use Rattle.hk_node.specs.Changes.{IsGiven, IsHandedBack, IsRefusedHold}
use Rattle.hk_oplog.specs.Lists.{last_of}
use Rattle.hk_seats.specs.Replying.{IsChangeReply}

-- a hold at this time was given as the last operation of a list that the seat knows now, and did not know before
abbrev pub KnowsHold : List Op → List Op → ℕ → Hold → Type 0
KnowsHold old new time hold = (ops : List Op) × (length old < length ops) × IsPrefix ops new × (last_of ops ≡ Some (HoldAt time)) × IsGiven hold time ops

-- a hold at this time, in such a node: it was given, or refused as the node refuses it, and then the seat's list is
-- as before
abbrev pub TakesHold : NodeKind → List Op → ℕ → Result Hold (Option Hold × Refusal) → List Op → Type 0
TakesHold kind old time result new = MatchResult result (KnowsHold old new time) (λ e. IsRefusedHold kind time e.0 e.1 × (new ≡ old))

-- the release of this hold, in such a node: the seat's list has so many operations, and it ends them; or it was refused
-- as the node refuses it, and the hold was handed back but where the release waits
abbrev pub ReleasesHold : NodeKind → List Op → Hold → Result ℕ (Option Hold × Refusal) → List Op → Type 0
ReleasesHold kind old hold result new =
    MatchResult result (λ count. IsChangeReply kind old new (Release hold.reader hold.at) (Done count))
    (λ e. IsChangeReply kind old new (Release hold.reader hold.at) (Refused e.1) × IsHandedBack hold e.0 e.1)

-- a hold of a host that only reads: its kind has no meaning there
abbrev pub RefusesHold : List Op → ℕ → Result Hold (Option Hold × Refusal) → List Op → Type 0
RefusesHold old time result new = (result ≡ Err (None, Form BadKind)) × (new ≡ old)

-- the release of a hold of a host that only reads
abbrev pub RefusesRelease : List Op → Hold → Result ℕ (Option Hold × Refusal) → List Op → Type 0
RefusesRelease old hold result new = (result ≡ Err (Some hold, Form BadKind)) × (new ≡ old)

-- a pin at a time by a connection that passes so, and its release: just one that may do everything has them
abbrev pub HoldsBy : Passes → NodeKind → List Op → ℕ → Result Hold (Option Hold × Refusal) → List Op → Type 0
HoldsBy All kind old time result new = TakesHold kind old time result new
HoldsBy Feeds kind old time result new = RefusesHold old time result new
HoldsBy Readings kind old time result new = RefusesHold old time result new

abbrev pub ReleasesBy : Passes → NodeKind → List Op → Hold → Result ℕ (Option Hold × Refusal) → List Op → Type 0
ReleasesBy All kind old hold result new = ReleasesHold kind old hold result new
ReleasesBy Feeds kind old hold result new = RefusesRelease old hold result new
ReleasesBy Readings kind old hold result new = RefusesRelease old hold result new
