-- What a host over a node and a seat of it may reply.
use Rattle.std.specs.Prelude.{ℕ, ◌≡◌, ◌⊎◌, ◌<◌, ◌≤◌, true, List, length, take, Some, Result, Ok, Err, MatchBool}
use mathlib.Core.List.{IsPrefix}
use Rattle.hk_types.specs.declared.faults.Refusal.{Refusal}
use Rattle.hk_types.specs.declared.faults.Refusal.TheVariants as refusals
use Rattle.hk_types.specs.declared.faults.FormFault.TheVariants.{BadKind}
use Rattle.hk_log.specs.declared.item.Item.{Item}
use Rattle.hk_model.specs.declared.front.Front.{Front as FrontMarks}
use Rattle.hk_model.specs.Replica.Fragments.{FragmentValue}
use Rattle.hk_model.specs.Replica.Rules.{gather_result}
use Rattle.hk_messages.specs.declared.reply.Reply.{Reply}
use Rattle.hk_messages.specs.declared.request.Request.{Request}
use Rattle.hk_messages.specs.declared.request.Request.TheVariants as asked
use Rattle.hk_messages.specs.Replies.{ReplyValue, Done, Front, Refused, Later, reply_seen}
use Rattle.hk_messages.specs.LaterReplies.{Fed, Refused as LaterRefused}
use Rattle.hk_state_host.specs.Steps.{query_reply, fragment_reply}
use Rattle.hk_oplog.specs.declared.op.NodeKind.{NodeKind}
use Rattle.hk_oplog.specs.declared.op.Op.{Op}
use Rattle.hk_oplog.specs.declared.op.Op.TheVariants.{Join, Prune as PruneTo}
use Rattle.hk_node.specs.Changes.{ChangesSome}
use Rattle.hk_node.specs.Guarded.{TakesSome}
use Rattle.hk_oplog.specs.Lists.{last_of}
use Rattle.hk_oplog.specs.NewItems.{new_to}
use Rattle.hk_oplog.specs.Replay.{replay, is_legal}
use Rattle.hk_oplog.specs.Replies.{node_delta, node_front, node_reply, node_whole}

-- the marks that are told, or why there are none
abbrev pub front_reply : Result FrontMarks Refusal → ReplyValue
front_reply (Ok front) = Front front.horizon front.readable
front_reply (Err why) = Refused why

-- a reply is just this, or it says that memory ran out
abbrev pub IsOrOutOfMemory : ReplyValue → ReplyValue → Type 0
IsOrOutOfMemory wanted reply = (reply ≡ wanted) ⊎ (reply ≡ Refused refusals.Memory)

-- the reply to a change, in such a node: the seat's list has so many operations, more than before, and this one ends them; or
-- it was refused as such a node refuses it, and the seat's list is as before
abbrev pub IsChangeReply : NodeKind → List Op → List Op → Op → ReplyValue → Type 0
IsChangeReply kind old new op (Done count) = (length old < count) × (count ≤ length new) × (last_of (take count new) ≡ Some op)
IsChangeReply kind old new op (Refused why) = ChangesSome kind op (Err why) × (new ≡ old)
IsChangeReply kind old new op reply = ⊥

-- the reply to items, by what they are gathered to: that to the join of their fragment, or why there is none, or memory ran
-- out while they were gathered
abbrev pub IsItemsReply : NodeKind → List Op → List Op → Result FragmentValue Refusal → ReplyValue → Type 0
IsItemsReply kind old new (Ok fragment) reply = IsChangeReply kind old new (Join fragment) reply ⊎ ((reply ≡ Refused refusals.Memory) × (new ≡ old))
IsItemsReply kind old new (Err why) reply = (reply ≡ Refused why) × (new ≡ old)

-- the reply to a request that has no meaning for a host: its kind is refused, and the seat's list is as before
abbrev pub IsNoChange : List Op → List Op → ReplyValue → Type 0
IsNoChange old new reply = (reply ≡ Refused (refusals.Form BadKind)) × (new ≡ old)

-- the reply to a change that the node answers so: the seat's list up to the operation with the number told is the list that
-- the node's receipt names, and longer than the one before; or it was refused as the node refused it, and the seat's list is as
-- before
abbrev pub IsTold : (Result (List Op) Refusal → Type 0) → List Op → List Op → ReplyValue → Type 0
IsTold Answers old new (Done count) = (length old < count) × (count ≤ length new) × Answers (Ok (take count new))
IsTold Answers old new (Refused why) = Answers (Err why) × (new ≡ old)
IsTold Answers old new reply = ⊥

-- the reply to items: in a guarded node that to a taking of them, all or nothing, in another that to what they are gathered to
abbrev pub IsReplyToItems : NodeKind → List Op → List Op → List Item → ReplyValue → Type 0
IsReplyToItems kind old new items reply =
    MatchBool kind.guarded (IsTold (TakesSome kind items) old new reply) (IsItemsReply kind old new (gather_result kind.config items) reply)

-- the reply to items, by how many operations and new items there are, or why they were not taken
abbrev pub items_reply : Result (ℕ × ℕ) Refusal → ReplyValue
items_reply (Ok t) = Done t.0
items_reply (Err why) = Refused why

-- the same where the reply has how many were new
abbrev pub fed_reply : Result (ℕ × ℕ) Refusal → ReplyValue
fed_reply (Ok t) = Later (Fed t.0 t.1)
fed_reply (Err why) = Later (LaterRefused why)

-- the reply to items whose feeder is told how many were new: where the reply to the same items without that tells a number
-- of operations, it is that number, and how many of them told something new to what the node held before the last of these
-- operations; or it is refused so
abbrev pub IsFedReply : NodeKind → List Op → List Op → List Item → ReplyValue → Type 0
IsFedReply kind old new items (Later (Fed count told)) = IsReplyToItems kind old new items (Done count) × (told ≡ new_to (take count new) items)
IsFedReply kind old new items (Later (LaterRefused why)) = IsReplyToItems kind old new items (Refused why)
IsFedReply kind old new items reply = ⊥

-- what is replied to a request by a host of such a node, whose seat had a list and has another after it
abbrev pub IsReplyTo : NodeKind → List Op → List Op → Request → ReplyValue → Type 0
IsReplyTo kind old new asked.Front reply = IsOrOutOfMemory (front_reply (node_front (replay new))) reply
IsReplyTo kind old new (asked.Delta base) reply = IsOrOutOfMemory (fragment_reply (node_delta (replay new) base)) reply
IsReplyTo kind old new asked.Full reply = IsOrOutOfMemory (fragment_reply (node_whole (replay new))) reply
IsReplyTo kind old new (asked.Ask t query) reply = IsOrOutOfMemory (query_reply (node_reply (replay new) t query)) reply
IsReplyTo kind old new (asked.Items items) reply = IsReplyToItems kind old new items.items reply
IsReplyTo kind old new (asked.JoinThis fragment) reply = IsChangeReply kind old new (Join fragment) reply
IsReplyTo kind old new (asked.MergeThis fragment) reply = IsChangeReply kind old new (Join fragment) reply
IsReplyTo kind old new (asked.Prune horizon) reply = IsChangeReply kind old new (PruneTo horizon) reply
IsReplyTo kind old new (asked.Feed items) reply = IsFedReply kind old new items.items reply
IsReplyTo kind old new (asked.Later request) reply = IsNoChange old new reply

-- what a host over such a node may do: its seat's list is legal and begins with the one before, and the reply is so
abbrev pub MayReply : NodeKind → List Op → Request → Reply → List Op → Type 0
MayReply kind old request answer new = (is_legal new ≡ true) × IsPrefix old new × IsReplyTo kind old new request (reply_seen answer)

-- what is replied to a request by a host of such a node through which only items come in
abbrev pub IsFeeding : NodeKind → List Op → List Op → Request → ReplyValue → Type 0
IsFeeding kind old new asked.Front reply = IsReplyTo kind old new asked.Front reply
IsFeeding kind old new (asked.Delta base) reply = IsReplyTo kind old new (asked.Delta base) reply
IsFeeding kind old new asked.Full reply = IsReplyTo kind old new asked.Full reply
IsFeeding kind old new (asked.Ask t query) reply = IsReplyTo kind old new (asked.Ask t query) reply
IsFeeding kind old new (asked.Items items) reply = IsReplyTo kind old new (asked.Items items) reply
IsFeeding kind old new (asked.JoinThis fragment) reply = IsNoChange old new reply
IsFeeding kind old new (asked.MergeThis fragment) reply = IsNoChange old new reply
IsFeeding kind old new (asked.Prune horizon) reply = IsNoChange old new reply
IsFeeding kind old new (asked.Feed items) reply = IsReplyTo kind old new (asked.Feed items) reply
IsFeeding kind old new (asked.Later request) reply = IsNoChange old new reply

-- such a host replies to a request as the node's does
abbrev pub IsFed : Request → Type 0
IsFed request = (kind : NodeKind) (old new : List Op) (reply : ReplyValue) → IsReplyTo kind old new request reply → IsFeeding kind old new request reply

-- or it refuses its kind
abbrev pub IsUnfed : Request → Type 0
IsUnfed request = (kind : NodeKind) (old new : List Op) (reply : ReplyValue) → IsNoChange old new reply → IsFeeding kind old new request reply

-- what such a host may do: its seat's list is legal and begins with the one before, and the reply is so
abbrev pub MayFeed : NodeKind → List Op → Request → Reply → List Op → Type 0
MayFeed kind old request answer new = (is_legal new ≡ true) × IsPrefix old new × IsFeeding kind old new request (reply_seen answer)

-- what is replied to a request by a host that only reads
abbrev pub IsReading : List Op → List Op → Request → ReplyValue → Type 0
IsReading old new asked.Front reply = IsOrOutOfMemory (front_reply (node_front (replay new))) reply
IsReading old new (asked.Delta base) reply = IsOrOutOfMemory (fragment_reply (node_delta (replay new) base)) reply
IsReading old new asked.Full reply = IsOrOutOfMemory (fragment_reply (node_whole (replay new))) reply
IsReading old new (asked.Ask t query) reply = IsOrOutOfMemory (query_reply (node_reply (replay new) t query)) reply
IsReading old new (asked.Items items) reply = IsNoChange old new reply
IsReading old new (asked.JoinThis fragment) reply = IsNoChange old new reply
IsReading old new (asked.MergeThis fragment) reply = IsNoChange old new reply
IsReading old new (asked.Prune horizon) reply = IsNoChange old new reply
IsReading old new (asked.Feed items) reply = IsNoChange old new reply
IsReading old new (asked.Later request) reply = IsNoChange old new reply

-- what a host over a seat alone may do: its list is legal and begins with the one before, and the reply is so
abbrev pub MayOnlyRead : List Op → Request → Reply → List Op → Type 0
MayOnlyRead old request answer new = (is_legal new ≡ true) × IsPrefix old new × IsReading old new request (reply_seen answer)
