-- What of a reply stays right while a seat's list goes on, as it does where others are told of a change.
use Rattle.std.specs.Prelude.{◌≡◌, Bool, false, not, List}
use mathlib.Core.List.{IsPrefix}
use Rattle.hk_messages.specs.declared.request.Request.{Request}
use Rattle.hk_messages.specs.declared.request.Request.TheVariants.{Later}
use Rattle.hk_messages.specs.Requests.{request_seen}
use Rattle.hk_messages.specs.Doing.{does_of, is_changes, is_reads}
use Rattle.hk_messages.specs.Replies.{ReplyValue, Done, Later as LaterReply}
use Rattle.hk_messages.specs.LaterReplies.{Fed}
use Rattle.hk_oplog.specs.declared.op.NodeKind.{NodeKind}
use Rattle.hk_oplog.specs.declared.op.Op.{Op}
use Rattle.hk_seats.specs.Replying.{IsReplyTo}

-- where a reply tells a number of operations a seat's list may go on behind it, else the list stays
abbrev pub GoesOnBy : ReplyValue → List Op → List Op → Type 0
GoesOnBy (Done count) old new = IsPrefix old new
GoesOnBy (LaterReply (Fed count told)) old new = IsPrefix old new
GoesOnBy reply old new = new ≡ old

-- a request of version 1 that doesn't only read
abbrev pub is_change : Request → Bool
is_change (Later request) = false
is_change request = not (is_reads (does_of (request_seen request)))

-- a request of version 1 that reads or brings items
abbrev pub is_fed : Request → Bool
is_fed (Later request) = false
is_fed request = not (is_changes (does_of (request_seen request)))

-- such a request has the reply that it has also where the list went on so
abbrev pub IsChange : Request → Type 0
IsChange request = (kind : NodeKind) (old now new : List Op) (reply : ReplyValue) → GoesOnBy reply now new → IsReplyTo kind old now request reply → IsReplyTo kind old new request reply
