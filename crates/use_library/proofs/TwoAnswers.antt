-- Two answers of a guarded node to one question.
use Rattle.std.proofs.Common.{◌≡◌, ◌++◌, ◌∙◌, sym, subst, inl, inr, true, ℕ, List, All, Result, Ok, Err, IfOk}
use mathlib.Core.List.{IsPrefix}
use Rattle.hk_types.specs.declared.faults.Refusal.{Refusal}
use Rattle.hk_model.specs.declared.answer.Answer.{Answer}
use Rattle.hk_model.specs.declared.query.Query.{Query}
use Rattle.hk_model.specs.Replica.Answers.{AnswerValue, answer_seen}
use Rattle.hk_oplog.specs.declared.op.Op.{Op}
use Rattle.hk_oplog.specs.Final.{IsFormed, IsFinal, StillGives}
use Rattle.hk_oplog.specs.Replay.{is_legal, replay}
use Rattle.hk_oplog.specs.Replies.{Answers, node_reply}

ok_same : (x y : AnswerValue) → ◌≡◌ {A = Result AnswerValue Refusal} (Ok x) (Ok y) → x ≡ y
ok_same x y e = cc

-- the second is the first, or there is none
pub second_same : (mid new : List Op) (t : ℕ) (q : Query) (first : Answer) (again : Result Answer Refusal) → IsPrefix mid new → All IsFormed new → is_legal new ≡ true → IsFinal mid t q (Ok first) → Answers (node_reply (replay new) t q) again → IfOk again (λ a. answer_seen a ≡ answer_seen first)
second_same mid new t q first (Err why) p formed legal final answers = tt
second_same mid new t q first (Ok a) p formed legal final answers =
    let gives : StillGives (replay new) (node_reply (replay new) t q) (answer_seen first) = subst (λ (l : List Op). StillGives (replay l) (node_reply (replay l) t q) (answer_seen first)) p.1 (final p.0 (subst (λ (l : List Op). All IsFormed l) (sym p.1) formed) (subst (λ (l : List Op). is_legal l ≡ true) (sym p.1) legal)) in
    elim gives [
      | inl same ↦ ok_same (answer_seen a) (answer_seen first) (sym answers ∙ same)
      | inr old ↦ absurd (cc (sym answers ∙ old))
    ]
