-- What a host of a node offers beside version 1: the list that its seat has seen, and what it cuts.
use Rattle.std.specs.Prelude.{ℕ, ◌==◌, if◌then◌else◌, List, Option, Result}
use mathlib.Core.List.{IsPrefix}
use Rattle.hk_types.specs.declared.faults.Refusal.{Refusal}
use Rattle.hk_model.specs.Replica.Fragments.{FragmentValue}
use Rattle.hk_messages.specs.declared.reply.Reply.{Reply}
use Rattle.hk_messages.specs.declared.request.Request.{Request}
use Rattle.hk_oplog.specs.declared.op.Hold.{Hold}
use Rattle.hk_oplog.specs.declared.op.Op.{Op}
use Rattle.hk_oplog.specs.NodeContent.{NodeContent}
use Rattle.hk_oplog.specs.Replies.{node_delta, node_whole}

-- what is cut for a base: all that the node holds for 0, else what a replica may lack that is readable up to the base
abbrev pub cut_of : NodeContent → ℕ → Result FragmentValue Refusal
cut_of c base = if base == 0 then node_whole c else node_delta c base

-- what is said of a host over a seat: the list that its seat has seen or was told of; how a hold at a time may come out in the
-- first state and leave the second, and how the release of a hold
pub record Sided (S : Type 0) : Type 1 where
  pub list : S → List Op
  pub may_hold : S → ℕ → Result Hold (Option Hold × Refusal) → S → Type 0
  pub may_release : S → Hold → Result ℕ (Option Hold × Refusal) → S → Type 0

-- whatever is replied to a request of version 1, the list of the host's seat begins with the one before
abbrev pub GoesOn : {S : Type 0} → Sided S → (S → Request → Reply → S → Type 0) → Type 0
GoesOn {S} side may = (old : S) (request : Request) (reply : Reply) (new : S) → may old request reply new → IsPrefix (side.list old) (side.list new)
