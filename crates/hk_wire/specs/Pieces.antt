-- Replies in pieces: how many facts or rows a reply has, and what of its encoding comes from one of them on.
use Rattle.std.specs.Prelude.{◌≡◌, ◌⊎◌, ℕ, ◌+◌, ◌<◌, ◌≤◌, nat_le, if◌then◌else◌, true, List, [], ◌++◌, length, take, drop, Option, Some, None}
use Rattle.std.specs.Int.{w32, w64}
use Rattle.std.specs.List.{flat_map}
use Rattle.hk_fragment.specs.Heads.{HeadValue}
use Rattle.hk_fragment.specs.Parts.{Known}
use Rattle.hk_frames.specs.Fields.{number}
use Rattle.hk_answers.specs.Answers.{keyed_text}
use Rattle.hk_fragment_bytes.specs.Fragments.{fact_text, fragment_front}
use Rattle.hk_fragment_bytes.specs.Parts.{head_text, wire_head_of}
use Rattle.hk_answers.specs.Pieces.{rows_of, answer_front, page_front}
use Rattle.hk_messages.specs.LaterReplies as later
use Rattle.hk_messages.specs.declared.later_reply.LaterReply.{LaterReply}
use Rattle.hk_messages.specs.declared.reply.Reply.{Reply}
use Rattle.hk_messages.specs.Replies.{ReplyValue, Fragment, Answer, Later, reply_body, reply_seen, reply_text, is_encodable}
use Rattle.hk_wire.specs.declared.reply_pieces.Place.{Place}

-- how many facts or rows a reply has, between which its encoding is divided; the head of a last chunk counts as one more behind its
-- facts
abbrev pub later_count : later.ReplyValue → ℕ
later_count (later.Latest t a) = length (rows_of a)
later_count (later.Page page) = length page.rows
later_count (later.Part left facts) = length facts
later_count (later.LastPart facts head) = length facts + 1
later_count other = 0

abbrev pub count_of : ReplyValue → ℕ
count_of (Fragment f) = length f.facts
count_of (Answer a) = length (rows_of a)
count_of (Later reply) = later_count reply
count_of other = 0

-- what its body has before them
abbrev pub later_front : later.ReplyValue → List ℕ
later_front (later.Latest t a) = number w64 t ++ answer_front a
later_front (later.Page page) = page_front page
later_front (later.Part left facts) = number w64 left ++ number w32 (length facts)
later_front (later.LastPart facts head) = number w32 (length facts)
later_front other = later.reply_body other

abbrev pub body_front : ReplyValue → List ℕ
body_front (Fragment f) = fragment_front f
body_front (Answer a) = answer_front a
body_front (Later reply) = later_front reply
body_front other = reply_body other

-- what it has from the one of this number on
abbrev pub later_rest : later.ReplyValue → ℕ → List ℕ
later_rest (later.Latest t a) n = flat_map keyed_text (drop n (rows_of a))
later_rest (later.Page page) n = flat_map keyed_text (drop n page.rows)
later_rest (later.Part left facts) n = flat_map fact_text (drop n facts)
later_rest (later.LastPart facts head) n = flat_map fact_text (drop n facts) ++ (if nat_le n (length facts) then head_text head else [])
later_rest other n = []

abbrev pub rest_from : ReplyValue → ℕ → List ℕ
rest_from (Fragment f) n = flat_map fact_text (drop n f.facts)
rest_from (Answer a) n = flat_map keyed_text (drop n (rows_of a))
rest_from (Later reply) n = later_rest reply n
rest_from other n = []

-- Of the facts or rows from the first of these numbers on, those before the second one were added: all that are left, or more than
-- 65,536 bytes.
pub record AddsItems (r : ReplyValue) (from to : ℕ) (before after : List ℕ) : Type 0 where
  pub more : List ℕ
  pub added : after ≡ before ++ more
  pub rest : more ++ rest_from r to ≡ rest_from r from
  pub first : from ≤ to
  pub within : to ≤ count_of r
  pub many : to < count_of r → 65536 < length more

-- so it is of a reply as it stands in the code, of both versions and of version 2
abbrev pub AddsItemsOf : Reply → ℕ → ℕ → List ℕ → List ℕ → Type 0
AddsItemsOf reply = AddsItems (reply_seen reply)

abbrev pub AddsLaterItems : LaterReply → ℕ → ℕ → List ℕ → List ℕ → Type 0
AddsLaterItems reply = AddsItems (Later (later.reply_seen reply))

-- the same of a last chunk, by its facts and its head
abbrev pub AddsLast : List Known → HeadValue → ℕ → ℕ → List ℕ → List ℕ → Type 0
AddsLast facts head = AddsItems (Later (later.LastPart facts (wire_head_of head)))

-- the same of the whole encoding from its start on
pub record AddsFront (r : ReplyValue) (to : ℕ) (before after : List ℕ) : Type 0 where
  pub more : List ℕ
  pub added : after ≡ before ++ more
  pub rest : more ++ rest_from r to ≡ reply_text r
  pub within : to ≤ count_of r
  pub many : to < count_of r → 65536 < length more

-- a place inside the encoding of a reply: so many bytes come before it, and so many behind it
pub record IsInside (r : ReplyValue) (p : Place) : Type 0 where
  pub encodable : is_encodable r ≡ true
  pub begun : List ℕ
  pub whole : begun ++ rest_from r p.items ≡ reply_text r
  pub bytes : p.bytes ≡ length begun
  pub some : 0 < p.bytes
  pub left : p.left ≡ length (rest_from r p.items)
  pub more : 0 < p.left
  pub within : p.items ≤ count_of r

-- the start of the encoding of a reply, or a place inside of it
abbrev pub IsPlace : ReplyValue → Place → Type 0
IsPlace r p = (p.bytes ≡ 0) ⊎ IsInside r p

-- Behind so many bytes of the encoding, which were added before, there was added what is left of it; or more than 65,536 bytes,
-- up to the place where the next piece begins.
abbrev pub AddsPiece : ReplyValue → ℕ → Option Place → List ℕ → List ℕ → Type 0
AddsPiece r begun None before after =
    (is_encodable r ≡ true) × ((more : List ℕ) × (after ≡ before ++ more) × (take begun (reply_text r) ++ more ≡ reply_text r) × (0 < length more))
AddsPiece r begun (Some next) before after =
    IsInside r next × ((more : List ℕ) × (after ≡ before ++ more) × (take begun (reply_text r) ++ more ≡ take next.bytes (reply_text r)) × (65536 < length more))

-- so it is of a reply as it stands in the code
abbrev pub AddsPieceOf : Reply → ℕ → Option Place → List ℕ → List ℕ → Type 0
AddsPieceOf reply = AddsPiece (reply_seen reply)
