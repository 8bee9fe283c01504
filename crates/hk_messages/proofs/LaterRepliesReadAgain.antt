-- Replies of version 2: what is read is encoded so, and what is encoded so is read again.
use Rattle.std.proofs.Common.{◌≡◌, ℕ, ◌^◌, ◌<◌, ◌≤◌, true, not, eqb, List, ◌++◌, Ok, refl, sym}
use Rattle.std.specs.Int.{w64}
use Rattle.std.proofs.lemmas.Bool.{and_from}
use Rattle.hk_types.specs.declared.faults.Refusal.{Refusal}
use Rattle.hk_model.specs.Replica.Answers.{AnswerValue}
use Rattle.hk_model.specs.Replica.Pages.{PageValue}
use Rattle.hk_model.specs.Replica.StreamsTold.{StreamsValue}
use Rattle.hk_fragment.specs.Parts.{Known}
use Rattle.hk_frames.specs.Fields.{IsBytes, number, number_at}
use Rattle.hk_frames.proofs.ReadingSteps.{Takes, both as both_true}
use Rattle.hk_answers.specs.Readers.{both, time_at, positive_at, is_ops, ops_at, front_at}
use Rattle.hk_answers.specs.Answers.{answer_text, answer_at}
use Rattle.hk_fragment_bytes.specs.Fragments.{facts_text}
use Rattle.hk_answers.specs.Refusals.{later_refusal_at}
use Rattle.hk_fragment_bytes.specs.Parts.{WireHead, head_text, head_at, head_is_counted, HeadFits, part_at, part_keeps_rules, PartFits}
use Rattle.hk_answers.specs.Told.{page_at, streams_at}
use Rattle.hk_answers.specs.Metrics.{metrics_at, tables_at}
use Rattle.hk_answers.specs.declared.metrics.Metric.{Metric}
use Rattle.hk_answers.proofs.ReadersAndEncodings.{IsField, field64, time_field, positive_field, ops_field, front_field, both_field, this_or, made_takes, made_again}
use Rattle.hk_answers.proofs.AnswersReadAgain.{answer_field, AnswerKeeps}
use Rattle.hk_fragment_bytes.proofs.PartsReadAgain.{head_field, part_field}
use Rattle.hk_answers.proofs.ToldReadAgain.{page_field, streams_field}
use Rattle.hk_answers.proofs.MetricsReadAgain.{metrics_field, tables_field}
use Rattle.hk_answers.proofs.RefusalsReadAgain.{later_refusal_field}
use Rattle.hk_messages.specs.LaterReplies.{ReplyValue, Done, Streams, Latest, Page, Part, LastPart, Added, Held, Refused, Fed, Ready, Stats, Tables, reply_kind, reply_body, keeps_rules, ReplyFits, part_reply_of, reply_of}

latest_field : IsField (both time_at answer_at) (λ p. number w64 p.0 ++ answer_text p.1) (λ p. (p.0 ≤ 2 ^ 62) × AnswerKeeps p.1)
latest_field = both_field time_at answer_at (number w64) answer_text (λ n. n ≤ 2 ^ 62) AnswerKeeps time_field answer_field

abbrev IsPositive : ℕ → Type 0
IsPositive n = (n < 2 ^ 64) × (not (eqb n 0) ≡ true)

abbrev ArePart : List Known → Type 0
ArePart facts = PartFits facts × (part_keeps_rules facts ≡ true)

abbrev IsHead : WireHead → Type 0
IsHead h = HeadFits h × (head_is_counted h ≡ true)

left_field : IsField (both positive_at part_at) (λ p. number w64 p.0 ++ facts_text p.1) (λ p. IsPositive p.0 × ArePart p.1)
left_field = both_field positive_at part_at (number w64) facts_text IsPositive ArePart positive_field part_field

last_field : IsField (both part_at head_at) (λ p. facts_text p.0 ++ head_text p.1) (λ p. ArePart p.0 × IsHead p.1)
last_field = both_field part_at head_at facts_text head_text ArePart IsHead part_field head_field

held_field : IsField (both positive_at time_at) (λ p. number w64 p.0 ++ number w64 p.1) (λ p. IsPositive p.0 × (p.1 ≤ 2 ^ 62))
held_field = both_field positive_at time_at (number w64) (number w64) IsPositive (λ n. n ≤ 2 ^ 62) positive_field time_field

abbrev IsCount : ℕ → Type 0
IsCount n = (n < 2 ^ 64) × (is_ops n ≡ true)

fed_field : IsField (both ops_at (number_at w64)) (λ p. number w64 p.0 ++ number w64 p.1) (λ p. IsCount p.0 × (p.1 < 2 ^ 64))
fed_field = both_field ops_at (number_at w64) (number w64) (number w64) IsCount (λ n. n < 2 ^ 64) ops_field field64

-- ---- replies

abbrev done_of : ℕ → ReplyValue
done_of ops = Done ops

abbrev streams_of : StreamsValue → ReplyValue
streams_of s = Streams s

abbrev latest_of : ℕ × AnswerValue → ReplyValue
latest_of p = Latest p.0 p.1

abbrev page_of : PageValue → ReplyValue
page_of page = Page page

abbrev part_of : ℕ × List Known → ReplyValue
part_of p = Part p.0 p.1

abbrev last_of : List Known × WireHead → ReplyValue
last_of p = LastPart p.0 p.1

abbrev added_of : ℕ → ReplyValue
added_of count = Added count

abbrev held_of : ℕ × ℕ → ReplyValue
held_of p = Held p.0 p.1

abbrev refused_of : Refusal → ReplyValue
refused_of why = Refused why

abbrev fed_of : ℕ × ℕ → ReplyValue
fed_of p = Fed p.0 p.1

abbrev ready_of : ℕ × ℕ → ReplyValue
ready_of p = Ready p.0 p.1

abbrev stats_of : List Metric → ReplyValue
stats_of metrics = Stats metrics

abbrev tables_of : List ℕ → ReplyValue
tables_of tables = Tables tables

abbrev pub Keeps : ReplyValue → Type 0
Keeps r = ReplyFits r × (keeps_rules r ≡ true)

abbrev pub IsReplyOf : ℕ → List ℕ → ReplyValue × List ℕ → Type 0
IsReplyOf k bytes x = (reply_kind x.0 ≡ k) × (Takes bytes (reply_body x.0) x.1 × Keeps x.0)

part_kept : (p : ℕ × List Known) → IsPositive p.0 × ArePart p.1 → Keeps (Part p.0 p.1)
part_kept p h = ((h.0.0, h.1.0), and_from (not (eqb p.0 0)) (part_keeps_rules p.1) h.0.1 h.1.1)

last_kept : (p : List Known × WireHead) → ArePart p.0 × IsHead p.1 → Keeps (LastPart p.0 p.1)
last_kept p h = ((h.0.0, h.1.0), and_from (part_keeps_rules p.0) (head_is_counted p.1) h.0.1 h.1.1)

part_reply_takes : (k : ℕ) (bytes : List ℕ) (x : ReplyValue × List ℕ) → IsBytes bytes → part_reply_of k bytes ≡ Ok x → IsReplyOf k bytes x
unfolding part_reply_of
part_reply_takes k bytes x fits e =
    this_or k 68 _ _ x (IsReplyOf k bytes x) e
    (λ is f. made_takes part_of (both positive_at part_at) _ _ left_field reply_kind reply_body Keeps k (λ a. sym is) (λ a. refl) part_kept bytes x fits f)
    (λ e1. this_or k 69 _ _ x (IsReplyOf k bytes x) e1
    (λ is f. made_takes last_of (both part_at head_at) _ _ last_field reply_kind reply_body Keeps k (λ a. sym is) (λ a. refl) last_kept bytes x fits f)
    (λ e2. this_or k 70 _ _ x (IsReplyOf k bytes x) e2
    (λ is f. made_takes added_of (number_at w64) _ _ field64 reply_kind reply_body Keeps k (λ a. sym is) (λ a. refl) (λ a h. (h, refl)) bytes x fits f)
    (λ e3. this_or k 71 _ _ x (IsReplyOf k bytes x) e3
    (λ is f. made_takes held_of (both positive_at time_at) _ _ held_field reply_kind reply_body Keeps k (λ a. sym is) (λ a. refl) (λ a h. ((h.0.0, h.1), h.0.1)) bytes x fits f)
    (λ e4. this_or k 72 _ _ x (IsReplyOf k bytes x) e4
    (λ is f. made_takes refused_of later_refusal_at _ _ later_refusal_field reply_kind reply_body Keeps k (λ a. sym is) (λ a. refl) (λ a h. h) bytes x fits f)
    (λ e5. this_or k 73 _ _ x (IsReplyOf k bytes x) e5
    (λ is f. made_takes fed_of (both ops_at (number_at w64)) _ _ fed_field reply_kind reply_body Keeps k (λ a. sym is) (λ a. refl) (λ a h. ((h.0.0, h.1), h.0.1)) bytes x fits f)
    (λ e6. absurd cc))))))

pub reply_takes : (k : ℕ) (bytes : List ℕ) (x : ReplyValue × List ℕ) → IsBytes bytes → reply_of k bytes ≡ Ok x → IsReplyOf k bytes x
unfolding reply_of
reply_takes k bytes x fits e =
    this_or k 64 _ _ x (IsReplyOf k bytes x) e
    (λ is f. made_takes done_of ops_at _ _ ops_field reply_kind reply_body Keeps k (λ a. sym is) (λ a. refl) (λ a h. h) bytes x fits f)
    (λ e1. this_or k 65 _ _ x (IsReplyOf k bytes x) e1
    (λ is f. made_takes streams_of streams_at _ _ streams_field reply_kind reply_body Keeps k (λ a. sym is) (λ a. refl) (λ a h. h) bytes x fits f)
    (λ e2. this_or k 66 _ _ x (IsReplyOf k bytes x) e2
    (λ is f. made_takes latest_of (both time_at answer_at) _ _ latest_field reply_kind reply_body Keeps k (λ a. sym is) (λ a. refl) (λ a h. ((h.0, h.1.0), h.1.1)) bytes x fits f)
    (λ e3. this_or k 67 _ _ x (IsReplyOf k bytes x) e3
    (λ is f. made_takes page_of page_at _ _ page_field reply_kind reply_body Keeps k (λ a. sym is) (λ a. refl) (λ a h. h) bytes x fits f)
    (λ e4. this_or k 74 _ _ x (IsReplyOf k bytes x) e4
    (λ is f. made_takes ready_of front_at _ _ front_field reply_kind reply_body Keeps k (λ a. sym is) (λ a. refl) (λ a h. h) bytes x fits f)
    (λ e5. this_or k 75 _ _ x (IsReplyOf k bytes x) e5
    (λ is f. made_takes stats_of metrics_at _ _ metrics_field reply_kind reply_body Keeps k (λ a. sym is) (λ a. refl) (λ a h. h) bytes x fits f)
    (λ e6. this_or k 76 _ _ x (IsReplyOf k bytes x) e6
    (λ is f. made_takes tables_of tables_at _ _ tables_field reply_kind reply_body Keeps k (λ a. sym is) (λ a. refl) (λ a h. h) bytes x fits f)
    (λ e7. part_reply_takes k bytes x fits e7)))))))

pub reply_again : (r : ReplyValue) (rest : List ℕ) → Keeps r → reply_of (reply_kind r) (reply_body r ++ rest) ≡ Ok (r, rest)
unfolding reply_of part_reply_of
reply_again (Done ops) rest h = made_again done_of ops_at _ _ ops_field ops rest h
reply_again (Streams s) rest h = made_again streams_of streams_at _ _ streams_field s rest h
reply_again (Latest t a) rest h = made_again latest_of (both time_at answer_at) _ _ latest_field (t, a) rest (h.0.0, (h.0.1, h.1))
reply_again (Page page) rest h = made_again page_of page_at _ _ page_field page rest h
reply_again (Part left facts) rest h =
    let b = both_true (not (eqb left 0)) (part_keeps_rules facts) h.1 in
    made_again part_of (both positive_at part_at) _ _ left_field (left, facts) rest ((h.0.0, b.0), (h.0.1, b.1))
reply_again (LastPart facts head) rest h =
    let b = both_true (part_keeps_rules facts) (head_is_counted head) h.1 in
    made_again last_of (both part_at head_at) _ _ last_field (facts, head) rest ((h.0.0, b.0), (h.0.1, b.1))
reply_again (Added count) rest h = made_again added_of (number_at w64) _ _ field64 count rest h.0
reply_again (Held hold t) rest h = made_again held_of (both positive_at time_at) _ _ held_field (hold, t) rest ((h.0.0, h.1), h.0.1)
reply_again (Refused why) rest h = made_again refused_of later_refusal_at _ _ later_refusal_field why rest h
reply_again (Fed ops new) rest h = made_again fed_of (both ops_at (number_at w64)) _ _ fed_field (ops, new) rest ((h.0.0, h.1), h.0.1)
reply_again (Ready horizon readable) rest h = made_again ready_of front_at _ _ front_field (horizon, readable) rest h
reply_again (Stats metrics) rest h = made_again stats_of metrics_at _ _ metrics_field metrics rest h
reply_again (Tables tables) rest h = made_again tables_of tables_at _ _ tables_field tables rest h
