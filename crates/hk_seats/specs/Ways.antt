-- What a host of a connection may reply, by what the connection may do.
use Rattle.std.specs.Prelude.{◌≡◌, true, List}
use mathlib.Core.List.{IsPrefix}
use Rattle.hk_doors.specs.declared.passes.Passes.{Passes}
use Rattle.hk_doors.specs.declared.passes.Passes.TheVariants.{All, Feeds, Readings}
use Rattle.hk_messages.specs.declared.reply.Reply.{Reply}
use Rattle.hk_messages.specs.declared.request.Request.{Request}
use Rattle.hk_messages.specs.Replies.{ReplyValue, reply_seen}
use Rattle.hk_oplog.specs.declared.op.NodeKind.{NodeKind}
use Rattle.hk_oplog.specs.declared.op.Op.{Op}
use Rattle.hk_oplog.specs.Replay.{is_legal}
use Rattle.hk_seats.specs.Replying.{IsFeeding, IsReading, IsReplyTo}
use Rattle.hk_seats.specs.declared.way.Way.{Way}
use Rattle.hk_seats.specs.declared.way.Way.TheVariants.{Open, Feeding, Reading}

-- which requests connections pass that may do everything, send items and ask, or ask
abbrev pub way_passes : {J N : Type 0} → Way J N → Passes
way_passes (Open _) = All
way_passes (Feeding _) = Feeds
way_passes Reading = Readings

-- what is replied to a request there
abbrev pub IsAnswer : Passes → NodeKind → List Op → List Op → Request → ReplyValue → Type 0
IsAnswer All kind old new request reply = IsReplyTo kind old new request reply
IsAnswer Feeds kind old new request reply = IsFeeding kind old new request reply
IsAnswer Readings kind old new request reply = IsReading old new request reply

-- the seat's list is legal and begins with the one before, and the reply is so
abbrev pub MayAnswer : Passes → NodeKind → List Op → Request → Reply → List Op → Type 0
MayAnswer passes kind old request answer new = (is_legal new ≡ true) × IsPrefix old new × IsAnswer passes kind old new request (reply_seen answer)
