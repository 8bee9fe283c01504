-- The time of a hold is too old only where the list releases the hold.
use Rattle.std.proofs.Common.{◌≡◌, ℕ, ◌<◌, Bool, true, false, if◌then◌else◌, List, Result, Ok, Err, refl, ◌∙◌, sym, ap, ⊎_elim, arith}
use Rattle.std.specs.Prelude.{nat_lt}
use Rattle.std.proofs.lemmas.Bool.Decides.{nat_tests}
use Rattle.hk_types.specs.declared.faults.Refusal.{Refusal}
use Rattle.hk_types.specs.declared.faults.Refusal.TheVariants.{TooOld, NotYet, Damaged, Memory}
use Rattle.hk_model.specs.declared.answer.Answer.{Answer}
use Rattle.hk_model.specs.declared.query.Query.{Query}
use Rattle.hk_model.specs.Replica.Answers.{answer, visible}
use Rattle.hk_model.specs.Replica.Content.{readable}
use Rattle.hk_model.specs.Replica.Fragments.{FragmentValue, cut}
use Rattle.hk_oplog.specs.declared.op.Op.{Op}
use Rattle.hk_oplog.specs.NodeContent.{NodeContent}
use Rattle.hk_oplog.specs.Replay.{replay, is_legal}
use Rattle.hk_oplog.specs.Replies.{Answers, GivesOrMemory, node_reply, node_delta}
use Rattle.hk_oplog.specs.Holds.{HoldsBack}
use Rattle.hk_oplog.proofs.Holds.{old_is_released}

not_memory : (n : ℕ) → TooOld n ≡ Memory → ⊥
not_memory n e = cc e

reply_old : (c : NodeContent) (t : ℕ) (q : Query) (n : ℕ) → node_reply c t q ≡ Err (TooOld n) → t < c.content.horizon
reply_old c t q n e = go c.damaged (nat_lt t c.content.horizon) refl (nat_lt (readable c.content) t) e
  where
    go : (d x : Bool) → nat_lt t c.content.horizon ≡ x → (y : Bool) → (if d then Err Damaged else if x then Err (TooOld c.content.horizon) else if y then Err (NotYet (readable c.content)) else Ok (answer (visible c.content t) q)) ≡ Err (TooOld n) → t < c.content.horizon
    go true x p y e = absurd (cc)
    go false true p y e = grind (arith, nat_tests)
    go false false p true e = absurd (cc)
    go false false p false e = absurd (cc)

delta_old : (c : NodeContent) (t n : ℕ) → node_delta c t ≡ Err (TooOld n) → t < c.content.horizon
delta_old c t n e = go c.damaged (nat_lt t c.content.horizon) refl e
  where
    go : (d x : Bool) → nat_lt t c.content.horizon ≡ x → (if d then Err Damaged else if x then Err (TooOld c.content.horizon) else Ok (cut c.content t)) ≡ Err (TooOld n) → t < c.content.horizon
    go true x p e = absurd (cc)
    go false true p e = grind (arith, nat_tests)
    go false false p e = absurd (cc)

pub reply_holds_back : (ops : List Op) (t : ℕ) (q : Query) (result : Result Answer Refusal) → is_legal ops ≡ true → Answers (node_reply (replay ops) t q) result → HoldsBack ops t result
reply_holds_back ops t q (Ok a) legal gives k n there = tt
reply_holds_back ops t q (Err why) legal gives k n there = λ e.
    ⊎_elim
    (λ (m : why ≡ Memory). absurd (not_memory n (sym e ∙ m)))
    (λ (g : node_reply (replay ops) t q ≡ Err why). old_is_released ops k t legal there (reply_old (replay ops) t q n (g ∙ ap Err e)))
    gives

pub delta_holds_back : (ops : List Op) (t : ℕ) (result : Result FragmentValue Refusal) → is_legal ops ≡ true → GivesOrMemory (node_delta (replay ops) t) result → HoldsBack ops t result
delta_holds_back ops t (Ok f) legal gives k n there = tt
delta_holds_back ops t (Err why) legal gives k n there = λ e.
    ⊎_elim
    (λ (m : why ≡ Memory). absurd (not_memory n (sym e ∙ m)))
    (λ (g : node_delta (replay ops) t ≡ Err why). old_is_released ops k t legal there (delta_old (replay ops) t n (g ∙ ap Err e)))
    gives
