-- A change whose receipt tells a seat nothing new is told as one that waits.
use Rattle.std.proofs.Common.{ℕ, true, ◌≡◌, ◌<◌, ◌+◌, refl, sym, ap, subst, ◌∙◌, List, [], ◌∷◌, ◌++◌, length, Some, Ok, Err, length-append, append-nil}
use mathlib.Core.List.{IsPrefix}
use Rattle.hk_types.specs.declared.faults.Refusal.{Refusal}
use Rattle.hk_types.specs.declared.faults.Refusal.TheVariants.{Unpublished}
use Rattle.hk_log.specs.declared.item.Item.{Item}
use Rattle.hk_oplog.specs.declared.op.Hold.{Hold}
use Rattle.hk_oplog.specs.declared.op.NodeKind.{NodeKind}
use Rattle.hk_oplog.specs.declared.op.Op.{Op}
use Rattle.hk_oplog.specs.declared.op.Op.TheVariants.{Hold as HoldAt}
use Rattle.hk_oplog.specs.Lists.{last_of}
use Rattle.hk_oplog.specs.Replay.{is_legal, replay}
use Rattle.hk_oplog.proofs.LegalLists.{last_snoc}
use Rattle.hk_node.specs.Changes.{all_of, ChangesSome, IsGiven, IsHandedOut, IsRefusedHold, Refuses}
use Rattle.hk_node.specs.Guarded.{TakesSome}
use Rattle.hk_messages.specs.Replies.{Done, Refused}
use Rattle.hk_seats.specs.Replying.{IsChangeReply, IsTold}
use Rattle.hk_seats.proofs.ChangeReplies.{change_is}

long : (ops receipt : List Op) (op : Op) → receipt ≡ ops ++ op ∷ [] → length receipt ≡ length ops + 1
long ops receipt op is = ap length is ∙ length-append ops (op ∷ [])

pub change_waits : (kind : NodeKind) (op : Op) (receipt : List Op) → ChangesSome kind op (Ok receipt) → ChangesSome kind op (Err (Unpublished (length receipt)))
change_waits kind op receipt (old, new, list, made) = (old, (all_of old, op ∷ []), list, (made.0, refl, long (all_of old) receipt op made.2))

pub take_waits : (kind : NodeKind) (items : List Item) (receipt : List Op) → TakesSome kind items (Ok receipt) → TakesSome kind items (Err (Unpublished (length receipt)))
take_waits kind items receipt (old, new, list, took) =
    let made = took.0 in
    let same : all_of new ≡ receipt = ap all_of made.1 ∙ append-nil _ ∙ sym made.2 in
    (old, (all_of old, _ ∷ []), list, ((made.0, refl, long (all_of old) receipt _ made.2), tt, ap (λ (l : List Op). (replay l).damaged) (sym made.2 ∙ sym same) ∙ took.2))

-- the reply to a change whose receipt the seat was handed
pub handed_reply : (kind : NodeKind) (old new receipt : List Op) (op : Op) (ops : ℕ) → ChangesSome kind op (Ok receipt) → IsPrefix receipt new → length old < length receipt → ops ≡ length receipt
    → IsChangeReply kind old new op (Done ops)
handed_reply kind old new receipt op ops (was, now, list, made) p later is =
    change_is kind old new receipt op (Done ops) p later (ap Done is) (ap last_of made.2 ∙ last_snoc (all_of was) op)

pub waiting_reply : (kind : NodeKind) (old new receipt : List Op) (op : Op) (why : Refusal) → ChangesSome kind op (Ok receipt) → why ≡ Unpublished (length receipt) → new ≡ old
    → IsChangeReply kind old new op (Refused why)
waiting_reply kind old new receipt op why made is same = (subst (λ (w : Refusal). ChangesSome kind op (Err w)) (sym is) (change_waits kind op receipt made), same)

pub waiting_take : (kind : NodeKind) (items : List Item) (old new receipt : List Op) (why : Refusal) → TakesSome kind items (Ok receipt) → why ≡ Unpublished (length receipt) → new ≡ old
    → IsTold (TakesSome kind items) old new (Refused why)
waiting_take kind items old new receipt why made is same = (subst (λ (w : Refusal). TakesSome kind items (Err w)) (sym is) (take_waits kind items receipt made), same)

-- a hold whose receipt tells the seat nothing new is handed out with the refusal
pub waiting_hold : (kind : NodeKind) (time : ℕ) (receipt : List Op) (hold : Hold) (why : Refusal) → ChangesSome kind (HoldAt time) (Ok receipt) → is_legal receipt ≡ true → last_of receipt ≡ Some (HoldAt time)
    → IsGiven hold time receipt → why ≡ Unpublished (length receipt) → IsRefusedHold kind time (Some hold) why
waiting_hold kind time receipt hold why (old, new, list, made) legal last given is = (
  old,
  (all_of old, HoldAt time ∷ []),
  list,
  subst (λ (w : Refusal). Refuses old (HoldAt time) w (all_of old, HoldAt time ∷ [])) (sym is) (made.0, refl, long (all_of old) receipt (HoldAt time) made.2),
  subst (λ (l : List Op). IsHandedOut l time (Some hold) why) made.2 (legal, last, given, is),
)
