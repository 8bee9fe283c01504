-- Requests of version 2: their values, the encoding of their bodies and its reading.
use Rattle.std.specs.Prelude.{ℕ, ◌^◌, ◌<◌, ◌≤◌, Bool, true, not, nat_le, ◌&&◌, ◌==◌, if◌then◌else◌, List, [], ◌++◌, Err}
use Rattle.std.specs.Int.{w16, w32, w64}
use Rattle.hk_types.specs.declared.faults.FormFault.TheVariants.{BadKind}
use Rattle.hk_model.specs.declared.query.Query.{Query}
use Rattle.hk_fragment.specs.Parts.{Known}
use Rattle.hk_frames.specs.Fields.{number, number_at}
use Rattle.hk_answers.specs.Readers.{Reader, both, mapped_value, nothing, time_at, positive_at}
use Rattle.hk_answers.specs.Queries.{query_text, query_at, QueryFits}
use Rattle.hk_fragment_bytes.specs.Fragments.{facts_text}
use Rattle.hk_fragment_bytes.specs.Parts.{WireHead, wire_head_of, head_text, head_at, whole_head_at, head_is_counted, HeadFits, part_at, part_keeps_rules, PartFits}
use Rattle.hk_message_head.specs.Limits.{most_at, wait_at}
use Rattle.hk_messages.specs.declared.later_request.LaterRequest.{LaterRequest}
use Rattle.hk_messages.specs.declared.later_request.LaterRequest.TheVariants as asked

-- the value of a `LaterRequest`
pub data RequestValue : Type 0 where
  Streams : RequestValue
  AskLatest : Query → RequestValue
  Page : ℕ → ℕ → ℕ → ℕ → ℕ → RequestValue
  Whole : ℕ → ℕ → RequestValue
  More : RequestValue
  AddPart : List Known → RequestValue
  JoinParts : WireHead → RequestValue
  MergeParts : WireHead → RequestValue
  Hold : ℕ → RequestValue
  Release : ℕ → RequestValue
  Await : ℕ → ℕ → RequestValue
  Stats : RequestValue
  Tables : RequestValue

-- the value that a `LaterRequest` has
abbrev pub request_seen : LaterRequest → RequestValue
request_seen asked.Streams = Streams
request_seen (asked.AskLatest query) = AskLatest query
request_seen (asked.Page of) = Page of.time of.table of.low of.high of.most
request_seen (asked.Whole base most_bytes) = Whole base most_bytes
request_seen asked.More = More
request_seen (asked.AddPart facts) = AddPart facts.items
request_seen (asked.JoinParts head) = JoinParts (wire_head_of head)
request_seen (asked.MergeParts head) = MergeParts (wire_head_of head)
request_seen (asked.Hold t) = Hold t
request_seen (asked.Release hold) = Release hold
request_seen (asked.Await t milliseconds) = Await t milliseconds
request_seen asked.Stats = Stats
request_seen asked.Tables = Tables

-- the kind byte of a request
abbrev pub request_kind : RequestValue → ℕ
request_kind Streams = 48
request_kind (AskLatest query) = 49
request_kind (Page t table low high most) = 50
request_kind (Whole base most_bytes) = 51
request_kind More = 52
request_kind (AddPart facts) = 53
request_kind (JoinParts head) = 54
request_kind (MergeParts head) = 55
request_kind (Hold t) = 56
request_kind (Release hold) = 57
request_kind (Await t milliseconds) = 59
request_kind Stats = 60
request_kind Tables = 61

-- its body
abbrev pub request_body : RequestValue → List ℕ
request_body Streams = []
request_body (AskLatest query) = query_text query
request_body (Page t table low high most) = number w64 t ++ (number w16 table ++ (number w64 low ++ (number w64 high ++ number w32 most)))
request_body (Whole base most_bytes) = number w64 base ++ number w32 most_bytes
request_body More = []
request_body (AddPart facts) = facts_text facts
request_body (JoinParts head) = head_text head
request_body (MergeParts head) = head_text head
request_body (Hold t) = number w64 t
request_body (Release hold) = number w64 hold
request_body (Await t milliseconds) = number w64 t ++ number w32 milliseconds
request_body Stats = []
request_body Tables = []

-- whether a request keeps the rules of its kind
abbrev pub keeps_rules : RequestValue → Bool
keeps_rules (Page t table low high most) = not (most == 0)
keeps_rules (AddPart facts) = part_keeps_rules facts
keeps_rules (JoinParts head) = head_is_counted head
keeps_rules (MergeParts head) = (head.base == 0) && head_is_counted head
keeps_rules (Release hold) = not (hold == 0)
keeps_rules (Await t milliseconds) = nat_le milliseconds 600000
keeps_rules other = true

-- a request whose numbers fit their fields
abbrev pub RequestFits : RequestValue → Type 0
RequestFits Streams = Unit {0}
RequestFits (AskLatest query) = QueryFits query
RequestFits (Page t table low high most) = (t ≤ 2 ^ 62) × ((table < 2 ^ 16) × ((low < 2 ^ 64) × ((high < 2 ^ 64) × (most < 2 ^ 32))))
RequestFits (Whole base most_bytes) = (base ≤ 2 ^ 62) × (most_bytes < 2 ^ 32)
RequestFits More = Unit {0}
RequestFits (AddPart facts) = PartFits facts
RequestFits (JoinParts head) = HeadFits head
RequestFits (MergeParts head) = HeadFits head
RequestFits (Hold t) = t ≤ 2 ^ 62
RequestFits (Release hold) = hold < 2 ^ 64
RequestFits (Await t milliseconds) = (t ≤ 2 ^ 62) × (milliseconds < 2 ^ 32)
RequestFits Stats = Unit {0}
RequestFits Tables = Unit {0}

-- a time, a table, the low key and the high one, the most rows
unfoldable pub page_at : Reader RequestValue
page_at bytes =
    mapped_value (λ p. Page p.0 p.1.0 p.1.1.0 p.1.1.1.0 p.1.1.1.1)
    (both time_at (both (number_at w16) (both (number_at w64) (both (number_at w64) most_at)))) bytes

-- the body of a kind that puts parts together or is about holds
unfoldable pub change_of : ℕ → Reader RequestValue
change_of kind bytes =
    if kind == 53 then mapped_value (λ facts. AddPart facts) part_at bytes
    else if kind == 54 then mapped_value (λ head. JoinParts head) head_at bytes
    else if kind == 55 then mapped_value (λ head. MergeParts head) whole_head_at bytes
    else if kind == 56 then mapped_value (λ t. Hold t) time_at bytes
    else if kind == 57 then mapped_value (λ hold. Release hold) positive_at bytes
    else Err BadKind

-- the body of a kind
unfoldable pub request_of : ℕ → Reader RequestValue
request_of kind bytes =
    if kind == 48 then nothing Streams bytes
    else if kind == 49 then mapped_value (λ query. AskLatest query) query_at bytes
    else if kind == 50 then page_at bytes
    else if kind == 51 then mapped_value (λ p. Whole p.0 p.1) (both time_at (number_at w32)) bytes
    else if kind == 52 then nothing More bytes
    else if kind == 59 then mapped_value (λ p. Await p.0 p.1) (both time_at wait_at) bytes
    else if kind == 60 then nothing Stats bytes
    else if kind == 61 then nothing Tables bytes
    else change_of kind bytes
