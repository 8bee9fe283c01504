-- Replies of version 2: their values, the encoding of their bodies and its reading.
use Rattle.std.specs.Prelude.{ℕ, ◌^◌, ◌<◌, ◌≤◌, Bool, true, not, nat_le, ◌&&◌, ◌==◌, if◌then◌else◌, List, ◌++◌, Err}
use Rattle.std.specs.Int.{w64}
use Rattle.hk_types.specs.declared.faults.FormFault.TheVariants.{BadKind}
use Rattle.hk_types.specs.declared.faults.Refusal.{Refusal}
use Rattle.hk_model.specs.Replica.Answers.{AnswerValue, answer_seen}
use Rattle.hk_model.specs.Replica.Pages.{PageValue, page_seen}
use Rattle.hk_model.specs.Replica.StreamsTold.{StreamsValue, streams_seen}
use Rattle.hk_fragment.specs.Parts.{Known}
use Rattle.hk_frames.specs.Fields.{number, number_at}
use Rattle.hk_answers.specs.Readers.{Reader, both, mapped_value, time_at, positive_at, is_ops, ops_at, front_at}
use Rattle.hk_answers.specs.Answers.{answer_text, answer_at, answer_keeps_rules, AnswerFits}
use Rattle.hk_fragment_bytes.specs.Fragments.{facts_text}
use Rattle.hk_answers.specs.Refusals.{refusal_text, RefusalFits, is_told, later_refusal_at}
use Rattle.hk_fragment_bytes.specs.Parts.{WireHead, wire_head_of, head_text, head_at, head_is_counted, HeadFits, part_at, part_keeps_rules, PartFits}
use Rattle.hk_answers.specs.Told.{page_text, page_at, page_keeps_rules, PageFits, streams_text, streams_at, streams_keep_rules, StreamsFit}
use Rattle.hk_answers.specs.Metrics.{metrics_text, metrics_at, metrics_keep_rules, MetricsFit, tables_text, tables_at, tables_keep_rules, TablesFit}
use Rattle.hk_answers.specs.declared.metrics.Metric.{Metric}
use Rattle.hk_messages.specs.declared.later_reply.LaterReply.{LaterReply}
use Rattle.hk_messages.specs.declared.later_reply.LaterReply.TheVariants as replied

-- the value of a `LaterReply`
pub data ReplyValue : Type 0 where
  Done : ℕ → ReplyValue
  Streams : StreamsValue → ReplyValue
  Latest : ℕ → AnswerValue → ReplyValue
  Page : PageValue → ReplyValue
  Part : ℕ → List Known → ReplyValue
  LastPart : List Known → WireHead → ReplyValue
  Added : ℕ → ReplyValue
  Held : ℕ → ℕ → ReplyValue
  Refused : Refusal → ReplyValue
  Fed : ℕ → ℕ → ReplyValue
  Ready : ℕ → ℕ → ReplyValue
  Stats : List Metric → ReplyValue
  Tables : List ℕ → ReplyValue

-- the value that a `LaterReply` has
abbrev pub reply_seen : LaterReply → ReplyValue
reply_seen (replied.Done ops) = Done ops
reply_seen (replied.Streams told) = Streams (streams_seen told)
reply_seen (replied.Latest t a) = Latest t (answer_seen a)
reply_seen (replied.Page page) = Page (page_seen page)
reply_seen (replied.Part left facts) = Part left facts.items
reply_seen (replied.LastPart facts head) = LastPart facts.items (wire_head_of head)
reply_seen (replied.Added count) = Added count
reply_seen (replied.Held hold t) = Held hold t
reply_seen (replied.Refused why) = Refused why
reply_seen (replied.Fed ops new) = Fed ops new
reply_seen (replied.Ready horizon readable) = Ready horizon readable
reply_seen (replied.Stats metrics) = Stats metrics.items
reply_seen (replied.Tables tables) = Tables tables.items

-- the kind byte of a reply
abbrev pub reply_kind : ReplyValue → ℕ
reply_kind (Done ops) = 64
reply_kind (Streams told) = 65
reply_kind (Latest t a) = 66
reply_kind (Page page) = 67
reply_kind (Part left facts) = 68
reply_kind (LastPart facts head) = 69
reply_kind (Added count) = 70
reply_kind (Held hold t) = 71
reply_kind (Refused why) = 72
reply_kind (Fed ops new) = 73
reply_kind (Ready horizon readable) = 74
reply_kind (Stats metrics) = 75
reply_kind (Tables tables) = 76

-- its body
abbrev pub reply_body : ReplyValue → List ℕ
reply_body (Done ops) = number w64 ops
reply_body (Streams told) = streams_text told
reply_body (Latest t a) = number w64 t ++ answer_text a
reply_body (Page page) = page_text page
reply_body (Part left facts) = number w64 left ++ facts_text facts
reply_body (LastPart facts head) = facts_text facts ++ head_text head
reply_body (Added count) = number w64 count
reply_body (Held hold t) = number w64 hold ++ number w64 t
reply_body (Refused why) = refusal_text why
reply_body (Fed ops new) = number w64 ops ++ number w64 new
reply_body (Ready horizon readable) = number w64 horizon ++ number w64 readable
reply_body (Stats metrics) = metrics_text metrics
reply_body (Tables tables) = tables_text tables

-- whether a reply keeps the rules of its kind
abbrev pub keeps_rules : ReplyValue → Bool
keeps_rules (Done ops) = is_ops ops
keeps_rules (Streams told) = streams_keep_rules told
keeps_rules (Latest t a) = answer_keeps_rules a
keeps_rules (Page page) = page_keeps_rules page
keeps_rules (Part left facts) = not (left == 0) && part_keeps_rules facts
keeps_rules (LastPart facts head) = part_keeps_rules facts && head_is_counted head
keeps_rules (Added count) = true
keeps_rules (Held hold t) = not (hold == 0)
keeps_rules (Refused why) = is_told why
keeps_rules (Fed ops new) = is_ops ops
keeps_rules (Ready horizon readable) = nat_le horizon readable
keeps_rules (Stats metrics) = metrics_keep_rules metrics
keeps_rules (Tables tables) = tables_keep_rules tables

-- a reply whose numbers fit their fields
abbrev pub ReplyFits : ReplyValue → Type 0
ReplyFits (Done ops) = ops < 2 ^ 64
ReplyFits (Streams told) = StreamsFit told
ReplyFits (Latest t a) = (t ≤ 2 ^ 62) × AnswerFits a
ReplyFits (Page page) = PageFits page
ReplyFits (Part left facts) = (left < 2 ^ 64) × PartFits facts
ReplyFits (LastPart facts head) = PartFits facts × HeadFits head
ReplyFits (Added count) = count < 2 ^ 64
ReplyFits (Held hold t) = (hold < 2 ^ 64) × (t ≤ 2 ^ 62)
ReplyFits (Refused why) = RefusalFits why
ReplyFits (Fed ops new) = (ops < 2 ^ 64) × (new < 2 ^ 64)
ReplyFits (Ready horizon readable) = (horizon ≤ 2 ^ 62) × (readable ≤ 2 ^ 62)
ReplyFits (Stats metrics) = MetricsFit metrics
ReplyFits (Tables tables) = TablesFit tables

-- the body of a kind of parts, of holds, of refusals, or of what was fed
unfoldable pub part_reply_of : ℕ → Reader ReplyValue
part_reply_of kind bytes =
    if kind == 68 then mapped_value (λ p. Part p.0 p.1) (both positive_at part_at) bytes
    else if kind == 69 then mapped_value (λ p. LastPart p.0 p.1) (both part_at head_at) bytes
    else if kind == 70 then mapped_value (λ count. Added count) (number_at w64) bytes
    else if kind == 71 then mapped_value (λ p. Held p.0 p.1) (both positive_at time_at) bytes
    else if kind == 72 then mapped_value (λ why. Refused why) later_refusal_at bytes
    else if kind == 73 then mapped_value (λ p. Fed p.0 p.1) (both ops_at (number_at w64)) bytes
    else Err BadKind

-- the body of a kind
unfoldable pub reply_of : ℕ → Reader ReplyValue
reply_of kind bytes =
    if kind == 64 then mapped_value (λ ops. Done ops) ops_at bytes
    else if kind == 65 then mapped_value (λ told. Streams told) streams_at bytes
    else if kind == 66 then mapped_value (λ p. Latest p.0 p.1) (both time_at answer_at) bytes
    else if kind == 67 then mapped_value (λ page. Page page) page_at bytes
    else if kind == 74 then mapped_value (λ p. Ready p.0 p.1) front_at bytes
    else if kind == 75 then mapped_value (λ metrics. Stats metrics) metrics_at bytes
    else if kind == 76 then mapped_value (λ tables. Tables tables) tables_at bytes
    else part_reply_of kind bytes
