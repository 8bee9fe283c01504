-- A node that follows others.
use Rattle.std.specs.Prelude.{ℕ, ◌≡◌, ◌<◌, ◌≤◌, ◌⊎◌, ◌++◌, max, min, true, List, [], ◌∷◌, length, take, Some, Result, Ok, Err}
use Rattle.hk_types.specs.declared.faults.Refusal.{Refusal}
use Rattle.hk_types.specs.declared.faults.Refusal.TheVariants.{Memory}
use Rattle.hk_log.specs.declared.item.Item.{Item}
use Rattle.hk_model.specs.History.Histories.{History, IsHistory}
use Rattle.hk_model.specs.Replica.Content.{readable}
use Rattle.hk_model.specs.Replica.Fragments.{FragmentValue}
use Rattle.hk_follow.specs.declared.follower.Taken.{Taken}
use Rattle.hk_follow.specs.declared.follower.Taken.TheVariants.{Joined, Kept}
use Rattle.hk_fragment.specs.Parts.{lowered}
use Rattle.hk_node.specs.Changes.{ChangesSome}
use Rattle.hk_oplog.specs.declared.op.NodeKind.{NodeKind}
use Rattle.hk_oplog.specs.declared.op.Op.{Op}
use Rattle.hk_oplog.specs.declared.op.Op.TheVariants.{Join}
use Rattle.hk_oplog.specs.Carried.{Carries}
use Rattle.hk_oplog.specs.Lists.{last_of}
use Rattle.hk_oplog.specs.NodeContent.{NodeContent}
use Rattle.hk_oplog.specs.Replay.{config_of, is_legal, replay}
use Rattle.hk_oplog.specs.Replies.{node_delta, node_whole}

-- what is joined of a fragment that another node gave: just that, or, of a delta, that with a lower oldest readable time
abbrev pub IsFit : FragmentValue → FragmentValue → Type 0
IsFit given joined = (joined ≡ given) ⊎ ((0 < given.base) × (k : ℕ) × (joined ≡ lowered given k))

-- a list that goes on has so many operations, more than before, which this one ends
abbrev pub IsMadeAt : List Op → List Op → Op → ℕ → Type 0
IsMadeAt old new op count = (length old < count) × (count ≤ length new) × (last_of (take count new) ≡ Some op)

-- what another node gave is a full snapshot, by which the oldest readable time would rise so
abbrev pub IsKeptOut : FragmentValue → ℕ → ℕ → Type 0
IsKeptOut given own theirs = (given.base ≡ 0) × (given.content.horizon ≡ theirs) × (own < theirs)

-- what came of what another node gave: it was joined, as the operation of this number; or it was a full snapshot that is kept out
abbrev pub IsTaken : List Op → List Op → FragmentValue → Taken → Type 0
IsTaken old new given (Joined count) = (f : FragmentValue) × IsFit given f × IsMadeAt old new (Join f) count
IsTaken old new given (Kept own theirs) = IsKeptOut given own theirs

-- it was refused as such a node refuses its join, or memory ran out before that
abbrev pub IsJoinRefused : NodeKind → FragmentValue → Refusal → Type 0
IsJoinRefused kind given why = (why ≡ Memory) ⊎ ((f : FragmentValue) × IsFit given f × ChangesSome kind (Join f) (Err why))

-- a time since which a delta may be joined to what a node holds, no older than what it can read
abbrev pub IsBase : NodeContent → ℕ → Type 0
IsBase c t = (t ≤ readable c.content) × (min c.content.horizon (readable c.content) ≤ t)

-- what a node with such a list gives since a time, or as its full snapshot
abbrev pub IsGivenBy : List Op → ℕ → FragmentValue → Type 0
IsGivenBy ops r f = (node_delta (replay ops) r ≡ Ok f) ⊎ (node_whole (replay ops) ≡ Ok f)

-- Where one legal list carries items of a history and another one of the same log others, the second with the join of what a
-- node with the first gives carries both, at the greater of its own oldest readable time and one no greater than the first's
abbrev pub FollowLaw : Type 0
FollowLaw =
    (history : History) (up own : List Op) (theirs ours : List Item) (k g r : ℕ) (f joined : FragmentValue)
    → is_legal up ≡ true → is_legal own ≡ true → config_of up ≡ config_of own → IsHistory (config_of own) history
    → Carries history up theirs k → Carries history own ours g → IsGivenBy up r f → IsFit f joined
    → (h : ℕ) × (h ≤ k) × Carries history (own ++ Join joined ∷ []) (ours ++ theirs) (max g h)
