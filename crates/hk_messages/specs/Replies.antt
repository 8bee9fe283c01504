-- Replies of both versions: their encoding and their reading.
use Rattle.std.specs.Prelude.{◌≡◌, ℕ, ◌^◌, ◌<◌, ◌≤◌, Bool, true, ◌&&◌, nat_le, ◌==◌, if◌then◌else◌, List, ◌++◌, length, Option, MatchOption, Result, ◌⊎◌, false, [], ◌∷◌, Ok, map}
use Rattle.std.specs.Int.{w64}
use Rattle.hk_types.specs.declared.faults.FormFault.{FormFault}
use Rattle.hk_types.specs.declared.faults.Refusal.TheVariants as refusals
use Rattle.hk_types.specs.declared.faults.FormFault.TheVariants.{TooLong}
use Rattle.hk_frames.specs.Fields.{number}
use Rattle.hk_frames.specs.Framing.{encoded, Begins, FormatOf}
use Rattle.hk_messages.specs.declared.reply.Reply.{Reply}
use Rattle.hk_messages.specs.declared.reply.Reply.TheVariants as replied
use Rattle.hk_types.specs.declared.faults.Refusal.{Refusal}
use Rattle.hk_model.specs.Replica.Answers.{AnswerValue, answer_seen}
use Rattle.hk_answers.specs.Answers.{answer_text, answer_at, answer_keeps_rules, AnswerFits}
use Rattle.hk_fragment_bytes.specs.Fragments.{WireFragment, wire_fragment_of, fragment_text, fragment_at, FragmentFits, is_counted}
use Rattle.hk_answers.specs.Readers.{Reader, mapped_value, is_ops, ops_at, front_at}
use Rattle.hk_message_head.specs.Messages.{message_text, message_at}
use Rattle.hk_messages.specs.LaterReplies as later
use Rattle.hk_answers.specs.Refusals.{refusal_text, refusal_at, RefusalFits, is_sent}

-- the value of a `Reply`
pub data ReplyValue : Type 0 where
  Done : ℕ → ReplyValue
  Front : ℕ → ℕ → ReplyValue
  Fragment : WireFragment → ReplyValue
  Answer : AnswerValue → ReplyValue
  Refused : Refusal → ReplyValue
  Later : later.ReplyValue → ReplyValue

-- the value that a `Reply` has
abbrev pub reply_seen : Reply → ReplyValue
reply_seen (replied.Done ops) = Done ops
reply_seen (replied.Front front) = Front front.horizon front.readable
reply_seen (replied.Fragment fragment) = Fragment (wire_fragment_of fragment)
reply_seen (replied.Answer a) = Answer (answer_seen a)
reply_seen (replied.Refused why) = Refused why
reply_seen (replied.Later reply) = Later (later.reply_seen reply)

-- the kind byte of a reply, which tells its version
abbrev pub reply_kind : ReplyValue → ℕ
reply_kind (Done ops) = 32
reply_kind (Front horizon readable) = 33
reply_kind (Fragment fragment) = 34
reply_kind (Answer a) = 35
reply_kind (Refused why) = 36
reply_kind (Later reply) = later.reply_kind reply

-- its body
abbrev pub reply_body : ReplyValue → List ℕ
reply_body (Done ops) = number w64 ops
reply_body (Front horizon readable) = number w64 horizon ++ number w64 readable
reply_body (Fragment fragment) = fragment_text fragment
reply_body (Answer a) = answer_text a
reply_body (Refused why) = refusal_text why
reply_body (Later reply) = later.reply_body reply

-- the rest of its frame
unfoldable pub reply_rest : ReplyValue → List ℕ
reply_rest r = message_text (reply_kind r) (reply_body r)

-- its encoding: the length of the rest, and the rest
abbrev pub reply_text : ReplyValue → List ℕ
reply_text r = encoded reply_rest r

-- whether a reply keeps the rules of its kind
abbrev pub keeps_rules : ReplyValue → Bool
keeps_rules (Done ops) = is_ops ops
keeps_rules (Front horizon readable) = nat_le horizon readable
keeps_rules (Fragment fragment) = is_counted fragment
keeps_rules (Answer a) = answer_keeps_rules a
keeps_rules (Refused why) = is_sent why
keeps_rules (Later reply) = later.keeps_rules reply

-- whether a reply has an encoding: it keeps its rules, and its rest has at most 2^28 bytes
abbrev pub is_encodable : ReplyValue → Bool
is_encodable r = keeps_rules r && nat_le (length (reply_rest r)) 268435456

-- a reply whose numbers fit their fields
abbrev pub ReplyFits : ReplyValue → Type 0
ReplyFits (Done ops) = ops < 2 ^ 64
ReplyFits (Front horizon readable) = (horizon ≤ 2 ^ 62) × (readable ≤ 2 ^ 62)
ReplyFits (Fragment fragment) = FragmentFits fragment
ReplyFits (Answer a) = AnswerFits a
ReplyFits (Refused why) = RefusalFits why
ReplyFits (Later reply) = later.ReplyFits reply

-- what has an encoding
abbrev pub IsReply : ReplyValue → Type 0
IsReply r = ReplyFits r × (is_encodable r ≡ true)

-- the body of a kind
unfoldable pub reply_of : ℕ → Reader ReplyValue
reply_of kind bytes =
    if kind == 32 then mapped_value (λ ops. Done ops) ops_at bytes
    else if kind == 33 then mapped_value (λ p. Front p.0 p.1) front_at bytes
    else if kind == 34 then mapped_value (λ fragment. Fragment fragment) fragment_at bytes
    else if kind == 35 then mapped_value (λ a. Answer a) answer_at bytes
    else if kind == 36 then mapped_value (λ why. Refused why) refusal_at bytes
    else mapped_value (λ reply. Later reply) (later.reply_of kind) bytes

-- the reply of either version that is all of the rest of a frame
unfoldable pub reply_at : List ℕ → Result ReplyValue FormFault
reply_at bytes = message_at 2 reply_of bytes

-- The text begins with the encodings of these replies. After them comes less than a frame, which is left, or
-- bytes with this fault.
abbrev pub ReadsReplies : List ℕ → List Reply → Result (List ℕ) FormFault → Type 0
ReadsReplies text replies left = Begins 2 268435456 reply_at reply_rest IsReply text (map reply_seen replies) left

-- how replies stand in rests
abbrev pub reply_format : FormatOf Reply 2 268435456
reply_format = record { Told = ReplyValue; Seen = ReplyValue; seen = reply_seen; meant = λ x. x; read = reply_at; rest_text = reply_rest; IsEncodable = IsReply }

-- what is added to a list where this text is read so far
abbrev pub AddsReplies : List Reply → List Reply → List ℕ → Result (List ℕ) FormFault → Type 0
AddsReplies before after text left = (replies : List Reply) × (after ≡ before ++ replies) × ReadsReplies text replies left

-- how many bytes the rest of its frame has, where it has an encoding
abbrev pub IsLength : Reply → Option ℕ → Type 0
IsLength reply len = MatchOption len (is_encodable (reply_seen reply) ≡ false) (λ n. (is_encodable (reply_seen reply) ≡ true) × (n ≡ length (reply_rest (reply_seen reply))))

-- a reply was added at the end, as its encoding
abbrev pub Encodes : Reply → List ℕ → List ℕ → Type 0
Encodes reply before after = (is_encodable (reply_seen reply) ≡ true) × (after ≡ before ++ reply_text (reply_seen reply))

-- the encoding is read as the reply alone
abbrev pub ReadsBack : Reply → Type 0
ReadsBack reply = ReadsReplies (reply_text (reply_seen reply)) (reply ∷ []) (Ok [])

-- why a reply was not added: it has no encoding, or memory ran out
abbrev pub IsRefusedAs : Reply → Refusal → Type 0
IsRefusedAs reply why =
    ((why ≡ refusals.Form TooLong) × (is_encodable (reply_seen reply) ≡ false)) ⊎ ((why ≡ refusals.Memory) × (is_encodable (reply_seen reply) ≡ true))
