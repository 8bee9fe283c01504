-- What is written for replies.
use Rattle.std.specs.Prelude.{◌≡◌, ◌<◌, ℕ, if◌then◌else◌, List, ◌++◌, length, take, Option, Some, None}
use Rattle.hk_types.specs.declared.faults.FormFault.{FormFault}
use Rattle.hk_types.specs.declared.faults.FormFault.TheVariants.{TooLong}
use Rattle.hk_types.specs.declared.faults.Refusal.TheVariants as refusals
use Rattle.hk_messages.specs.declared.reply.Reply.{Reply}
use Rattle.hk_messages.specs.declared.reply.Reply.TheVariants as replied
use Rattle.hk_messages.specs.LaterReplies as later
use Rattle.hk_messages.specs.Replies.{ReplyValue, Refused, Later, reply_seen, reply_text, is_encodable}
use Rattle.hk_wire.specs.Pieces.{IsInside, IsPlace}
use Rattle.hk_wire.specs.declared.reply_pieces.Place.{Place}

-- what is said of a reply that has no encoding: `Refused` with 2, in its version
abbrev pub too_long : ReplyValue → ReplyValue
too_long (Later reply) = Later (later.Refused (refusals.Form TooLong))
too_long other = Refused (refusals.Form TooLong)

-- what is written for a reply: its encoding, or what is said of it where it has none
abbrev pub reply_bytes : Reply → List ℕ
reply_bytes r = if is_encodable (reply_seen r) then reply_text (reply_seen r) else reply_text (too_long (reply_seen r))

-- the reply that says which fault of form ends a session, as the last one: `Refused` of version 1, whatever was asked
abbrev pub fault_reply : FormFault → Reply
fault_reply f = replied.Refused (refusals.Form f)

-- what is written for a fault of form
abbrev pub refused_text : FormFault → List ℕ
refused_text f = reply_text (Refused (refusals.Form f))

-- Behind so many bytes of what is written for a reply, which were appended before, there was appended what is left of it; or more
-- than 65,536 bytes of it, up to a place inside of its encoding.
abbrev pub PutsPiece : Reply → ℕ → Option Place → List ℕ → List ℕ → Type 0
PutsPiece r begun None before after =
    (more : List ℕ) × (after ≡ before ++ more) × (take begun (reply_bytes r) ++ more ≡ reply_bytes r) × (0 < length more)
PutsPiece r begun (Some next) before after =
    IsInside (reply_seen r) next × ((more : List ℕ) × (after ≡ before ++ more) × (take begun (reply_bytes r) ++ more ≡ take next.bytes (reply_bytes r)) × (65536 < length more))

-- how far a reply was appended that is kept, where one is
abbrev pub IsKeptAt : Option Reply → Place → Type 0
IsKeptAt None place = place.bytes ≡ 0
IsKeptAt (Some r) place = IsPlace (reply_seen r) place
