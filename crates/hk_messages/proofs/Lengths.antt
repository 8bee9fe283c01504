-- How long the encodings are.
use Rattle.std.proofs.Common.{◌≡◌, ℕ, ◌+◌, List, length, refl, arith}
use Rattle.std.specs.List.{flat_map}
use Rattle.std.proofs.lemmas.List.{length-append}
use Rattle.hk_types.specs.declared.faults.Refusal.{Refusal}
use Rattle.hk_model.specs.declared.query.Query.{Query}
use Rattle.hk_model.specs.Replica.Answers.{AnswerValue}
use Rattle.hk_fragment.specs.Parts.{Known}
use Rattle.hk_codec.specs.Encoding.{WrittenItem}
use Rattle.hk_codec.specs.Frames.{frame_text}
use Rattle.hk_codec.proofs.Lengths.{len16, len32, len64}
use Rattle.hk_answers.specs.Queries.{query_text}
use Rattle.hk_answers.specs.Answers.{answer_text}
use Rattle.hk_answers.specs.Refusals.{refusal_text}
use Rattle.hk_fragment_bytes.specs.Fragments.{facts_text}
use Rattle.hk_fragment_bytes.specs.Parts.{WireHead, head_text}
use Rattle.hk_messages.specs.LaterRequests.{Page, Whole, Await}
use Rattle.hk_messages.specs.LaterRequests as later_requests
use Rattle.hk_messages.specs.Requests.{WrittenRequest, Items, Feed, Ask, request_body, request_rest}
use Rattle.hk_messages.specs.LaterReplies.{Latest, Part, LastPart, Held, Fed, Ready}
use Rattle.hk_messages.specs.LaterReplies as later_replies
use Rattle.hk_messages.specs.Replies.{ReplyValue, Front, reply_body, reply_rest}

-- ---- requests

pub items_len : (items : List WrittenItem) → length (request_body (Items items)) ≡ 4 + length (flat_map frame_text items)
items_len items = simp (length-append, len32) refl

pub feed_len : (items : List WrittenItem) → length (request_body (Feed items)) ≡ 4 + length (flat_map frame_text items)
feed_len items = simp (length-append, len32) refl

pub ask_len : (t : ℕ) (query : Query) → length (request_body (Ask t query)) ≡ 8 + length (query_text query)
ask_len t query = simp (length-append, len64) refl

pub page_len : (t table low high most : ℕ) → length (later_requests.request_body (Page t table low high most)) ≡ 30
page_len t table low high most = simp (length-append, len64, len32, len16) refl

pub whole_len : (base most_bytes : ℕ) → length (later_requests.request_body (Whole base most_bytes)) ≡ 12
whole_len base most_bytes = simp (length-append, len64, len32) refl

pub await_len : (t milliseconds : ℕ) → length (later_requests.request_body (Await t milliseconds)) ≡ 12
await_len t milliseconds = simp (length-append, len64, len32) refl

pub request_rest_len : (r : WrittenRequest) → length (request_rest r) ≡ 2 + length (request_body r)
unfolding request_rest
request_rest_len r = omega arith

-- ---- replies

pub front_len : (horizon readable : ℕ) → length (reply_body (Front horizon readable)) ≡ 16
front_len horizon readable = simp (length-append, len64) refl

pub latest_len : (t : ℕ) (a : AnswerValue) → length (later_replies.reply_body (Latest t a)) ≡ 8 + length (answer_text a)
latest_len t a = simp (length-append, len64) refl

pub part_len : (left : ℕ) (facts : List Known) → length (later_replies.reply_body (Part left facts)) ≡ 8 + length (facts_text facts)
part_len left facts = simp (length-append, len64) refl

pub last_part_len : (facts : List Known) (h : WireHead) → length (later_replies.reply_body (LastPart facts h)) ≡ length (facts_text facts) + length (head_text h)
last_part_len facts h = length-append (facts_text facts) (head_text h)

pub fed_len : (ops new : ℕ) → length (later_replies.reply_body (Fed ops new)) ≡ 16
fed_len ops new = simp (length-append, len64) refl

pub ready_len : (horizon readable : ℕ) → length (later_replies.reply_body (Ready horizon readable)) ≡ 16
ready_len horizon readable = simp (length-append, len64) refl

pub held_len : (hold t : ℕ) → length (later_replies.reply_body (Held hold t)) ≡ 16
held_len hold t = simp (length-append, len64) refl

pub refused_len : (why : Refusal) → length (refusal_text why) ≡ 17
unfolding refusal_text
refused_len why = simp (length-append, len64) refl

pub reply_rest_len : (r : ReplyValue) → length (reply_rest r) ≡ 2 + length (reply_body r)
unfolding reply_rest
reply_rest_len r = omega arith

-- of the bodies of requests of version 1
pub ruleset request_lengths = (items_len, feed_len, ask_len, len64)

-- of version 2
pub ruleset later_request_lengths = (page_len, whole_len, await_len, len64)

-- of the bodies of replies of version 2
pub ruleset later_reply_lengths = (latest_len, part_len, last_part_len, held_len, fed_len, ready_len, refused_len, len64)
