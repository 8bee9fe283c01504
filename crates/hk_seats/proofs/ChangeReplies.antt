-- Replies to a change whose receipt the seat learnt.
use Rattle.std.proofs.Common.{ℕ, ◌≡◌, ◌<◌, ◌≤◌, sym, ap, subst, ◌∙◌, List, length, take, Some, Result, Ok, arith, length-append}
use Rattle.std.proofs.Math.Seq.{take-append_seam}
use mathlib.Core.List.{IsPrefix}
use Rattle.hk_types.specs.declared.faults.Refusal.{Refusal}
use Rattle.hk_log.specs.declared.item.Item.{Item}
use Rattle.hk_messages.specs.Replies.{ReplyValue, Done}
use Rattle.hk_oplog.specs.declared.op.NodeKind.{NodeKind}
use Rattle.hk_oplog.specs.declared.op.Op.{Op}
use Rattle.hk_oplog.specs.Lists.{last_of}
use Rattle.hk_oplog.specs.NewItems.{new_to}
use Rattle.hk_seats.specs.Replying.{IsChangeReply, IsTold}

-- a list that goes on from a receipt's is that one up to its length
front_is : (receipt new : List Op) → IsPrefix receipt new → take (length receipt) new ≡ receipt
front_is receipt new p = ap (take (length receipt)) (sym p.1) ∙ take-append_seam receipt p.0

front_fits : (receipt new : List Op) → IsPrefix receipt new → length receipt ≤ length new
front_fits receipt new p = let e = ap length (sym p.1) ∙ length-append receipt p.0 in omega arith

pub told_is : (Gives : Result (List Op) Refusal → Type 0) (old new receipt : List Op) (reply : ReplyValue) → IsPrefix receipt new → length old < length receipt → reply ≡ Done (length receipt) → Gives (Ok receipt)
    → IsTold Gives old new reply
told_is Gives old new receipt reply p later is gave =
    subst (IsTold Gives old new) (sym is) (later, front_fits receipt new p, subst (λ (l : List Op). Gives (Ok l)) (sym (front_is receipt new p)) gave)

pub change_is : (kind : NodeKind) (old new receipt : List Op) (op : Op) (reply : ReplyValue) → IsPrefix receipt new → length old < length receipt → reply ≡ Done (length receipt) → last_of receipt ≡ Some op
    → IsChangeReply kind old new op reply
change_is kind old new receipt op reply p later is last =
    subst (IsChangeReply kind old new op) (sym is) (later, front_fits receipt new p, ap last_of (front_is receipt new p) ∙ last)

-- what is new to a receipt's list is new to the seat's, up to the receipt's operation
pub counted_is : (receipt new : List Op) (items : List Item) (ops count : ℕ) → IsPrefix receipt new → ops ≡ length receipt → count ≡ new_to receipt items → count ≡ new_to (take ops new) items
counted_is receipt new items ops count p is told = told ∙ ap (λ (l : List Op). new_to l items) (sym (front_is receipt new p) ∙ ap (λ (n : ℕ). take n new) (sym is))
