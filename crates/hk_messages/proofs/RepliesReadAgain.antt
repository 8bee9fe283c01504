-- Replies: what is read is encoded so, and what is encoded so is read again.
use Rattle.std.proofs.Common.{◌≡◌, ℕ, true, leb, List, ◌++◌, length, Result, Ok, refl, sym, ap, subst}
use Rattle.std.proofs.lemmas.Bool.{and_from}
use Rattle.hk_types.specs.declared.faults.FormFault.{FormFault}
use Rattle.hk_types.specs.declared.faults.Refusal.{Refusal}
use Rattle.hk_model.specs.Replica.Answers.{AnswerValue}
use Rattle.hk_frames.specs.Fields.{IsBytes, ◌>>=◌}
use Rattle.hk_frames.specs.Framing.{IsFormat}
use Rattle.hk_frames.proofs.ReadingSteps.{bind_ok, ok_is, Takes, both as both_true}
use Rattle.hk_answers.specs.Readers.{ops_at, front_at, mapped_value}
use Rattle.hk_answers.specs.Answers.{answer_at}
use Rattle.hk_answers.specs.Refusals.{refusal_at}
use Rattle.hk_fragment_bytes.specs.Fragments.{WireFragment, fragment_at}
use Rattle.hk_answers.proofs.ReadersAndEncodings.{ops_field, front_field, this_or, made_takes, made_again}
use Rattle.hk_answers.proofs.AnswersReadAgain.{answer_field}
use Rattle.hk_fragment_bytes.proofs.FragmentsReadAgain.{fragment_field}
use Rattle.hk_answers.proofs.RefusalsReadAgain.{refusal_field}
use Rattle.hk_message_head.specs.Messages.{message_text, message_at}
use Rattle.hk_messages.specs.LaterReplies.{Done as LaterDone, Streams, Latest, Page, Part, LastPart, Added, Held, Refused as LaterRefused, Fed, Ready, Stats, Tables}
use Rattle.hk_messages.specs.LaterReplies as later
use Rattle.hk_messages.specs.Replies.{ReplyValue, Done, Front as Told, Fragment, Answer, Refused, Later, reply_kind, reply_body, reply_rest, keeps_rules, ReplyFits, IsReply, reply_of, reply_at}
use Rattle.hk_messages.proofs.MessagesReadAgain.{at_most_two, IsMessage, message_format, same_format}
use Rattle.hk_messages.proofs.LaterRepliesReadAgain.{Keeps as LaterKeeps, reply_takes as later_reply_takes, reply_again as later_reply_again}

-- ---- replies

abbrev done_of : ℕ → ReplyValue
done_of ops = Done ops

abbrev outcome_of : ℕ × ℕ → ReplyValue
outcome_of p = Told p.0 p.1

abbrev fragment_of : WireFragment → ReplyValue
fragment_of f = Fragment f

abbrev answered_of : AnswerValue → ReplyValue
answered_of a = Answer a

abbrev refused_of : Refusal → ReplyValue
refused_of why = Refused why

abbrev Keeps : ReplyValue → Type 0
Keeps r = ReplyFits r × (keeps_rules r ≡ true)

abbrev IsReplyOf : ℕ → List ℕ → ReplyValue × List ℕ → Type 0
IsReplyOf k bytes x = (reply_kind x.0 ≡ k) × (Takes bytes (reply_body x.0) x.1 × Keeps x.0)

abbrev later_of : later.ReplyValue → ReplyValue
later_of r = Later r

later_takes : (k : ℕ) (bytes : List ℕ) (x : ReplyValue × List ℕ) → IsBytes bytes → mapped_value later_of (later.reply_of k) bytes ≡ Ok x → IsReplyOf k bytes x
later_takes k bytes x fits e =
    let y = bind_ok (later.reply_of k bytes) (λ a. Ok (Later a.0, a.1)) x e in
    subst (IsReplyOf k bytes) {x = (Later y.0.0, y.0.1)} (ok_is (Later y.0.0, y.0.1) x y.2) (later_reply_takes k bytes y.0 fits y.1)

reply_takes : (k : ℕ) (bytes : List ℕ) (x : ReplyValue × List ℕ) → IsBytes bytes → reply_of k bytes ≡ Ok x → IsReplyOf k bytes x
unfolding reply_of
reply_takes k bytes x fits e =
    this_or k 32 _ _ x (IsReplyOf k bytes x) e
    (λ is f. made_takes done_of ops_at _ _ ops_field reply_kind reply_body Keeps k (λ a. sym is) (λ a. refl) (λ a h. h) bytes x fits f)
    (λ e2. this_or k 33 _ _ x (IsReplyOf k bytes x) e2
    (λ is f. made_takes outcome_of front_at _ _ front_field reply_kind reply_body Keeps k (λ a. sym is) (λ a. refl) (λ a h. h) bytes x fits f)
    (λ e3. this_or k 34 _ _ x (IsReplyOf k bytes x) e3
    (λ is f. made_takes fragment_of fragment_at _ _ fragment_field reply_kind reply_body Keeps k (λ a. sym is) (λ a. refl) (λ a h. h) bytes x fits f)
    (λ e6. this_or k 35 _ _ x (IsReplyOf k bytes x) e6
    (λ is f. made_takes answered_of answer_at _ _ answer_field reply_kind reply_body Keeps k (λ a. sym is) (λ a. refl) (λ a h. h) bytes x fits f)
    (λ e5. this_or k 36 _ _ x (IsReplyOf k bytes x) e5
    (λ is f. made_takes refused_of refusal_at _ _ refusal_field reply_kind reply_body Keeps k (λ a. sym is) (λ a. refl) (λ a h. h) bytes x fits f)
    (λ e4. later_takes k bytes x fits e4)))))

later_again : (r : later.ReplyValue) (rest : List ℕ) → LaterKeeps r → mapped_value later_of (later.reply_of (later.reply_kind r)) (later.reply_body r ++ rest) ≡ Ok (later_of r, rest)
later_again r rest h = ap (λ (y : Result (later.ReplyValue × List ℕ) FormFault). y >>= λ a. Ok (later_of a.0, a.1)) (later_reply_again r rest h)

reply_again : (r : ReplyValue) (rest : List ℕ) → Keeps r → reply_of (reply_kind r) (reply_body r ++ rest) ≡ Ok (r, rest)
unfolding reply_of
reply_again (Done ops) rest h = made_again done_of ops_at _ _ ops_field ops rest h
reply_again (Told horizon readable) rest h = made_again outcome_of front_at _ _ front_field (horizon, readable) rest h
reply_again (Fragment f) rest h = made_again fragment_of fragment_at _ _ fragment_field f rest h
reply_again (Answer a) rest h = made_again answered_of answer_at _ _ answer_field a rest h
reply_again (Refused why) rest h = made_again refused_of refusal_at _ _ refusal_field why rest h
reply_again (Later (LaterDone ops)) rest h = later_again (LaterDone ops) rest h
reply_again (Later (Streams told)) rest h = later_again (Streams told) rest h
reply_again (Later (Latest t a)) rest h = later_again (Latest t a) rest h
reply_again (Later (Page page)) rest h = later_again (Page page) rest h
reply_again (Later (Part left facts)) rest h = later_again (Part left facts) rest h
reply_again (Later (LastPart facts head)) rest h = later_again (LastPart facts head) rest h
reply_again (Later (Added count)) rest h = later_again (Added count) rest h
reply_again (Later (Held hold t)) rest h = later_again (Held hold t) rest h
reply_again (Later (LaterRefused why)) rest h = later_again (LaterRefused why) rest h
reply_again (Later (Fed ops new)) rest h = later_again (Fed ops new) rest h
reply_again (Later (Ready horizon readable)) rest h = later_again (Ready horizon readable) rest h
reply_again (Later (Stats metrics)) rest h = later_again (Stats metrics) rest h
reply_again (Later (Tables tables)) rest h = later_again (Tables tables) rest h

pub replies_are_sound : IsFormat 2 268435456 reply_at reply_rest IsReply
unfolding reply_at reply_rest
replies_are_sound =
    same_format 2 268435456 (message_at 2 reply_of) _ (IsMessage 2 reply_kind reply_body Keeps) IsReply
    (λ r h. (h.0.0, and_from (keeps_rules r) _ h.0.1 h.1.0))
    (λ r h. let b = both_true (keeps_rules r) (leb (length (message_text (reply_kind r) (reply_body r))) 268435456) h.1 in ((h.0, b.0), (b.1, at_most_two (reply_kind r))))
    (message_format 2 reply_of reply_kind reply_body Keeps (record { takes = reply_takes; again = reply_again }))
