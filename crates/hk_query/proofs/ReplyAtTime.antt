-- A time that can be asked is replied with the answer on the rows that show then.
use Rattle.std.proofs.Common.{◌≡◌, refl, sym, ap, ◌∙◌, ℕ, Bool, true, false, cond, nat_lt, Option, Some, None, Result, Ok, Err, IsOk, IfOk, IfErr, OnErr, MatchResult, ◌⊎◌, inr, true≢false}
use Rattle.std.specs.FinMap as finmap
use Rattle.hk_types.specs.Values.{RowValue}
use Rattle.hk_types.specs.declared.faults.Refusal.{Refusal}
use Rattle.hk_types.specs.declared.faults.Refusal.TheVariants.{Memory, TooOld, NotYet}
use Rattle.hk_model.specs.declared.answer.Answer.{Answer}
use Rattle.hk_model.specs.declared.query.Query.{Query}
use Rattle.hk_model.specs.declared.query.Query.TheVariants.{Get, Range, ByTag, Count}
use Rattle.hk_model.specs.History.Rows.{version_key_cmp}
use Rattle.hk_model.specs.Replica.Content.{Content, readable}
use Rattle.hk_model.specs.History.Histories.{Tables}
use Rattle.hk_model.specs.Replica.Answers.{AnswerValue, One, answer, answer_seen, reply, visible}
use Rattle.hk_query.specs.Times.{time_refusal}
use Rattle.hk_query.specs.Memory.{asking_may_lack, takes_memory}
use Rattle.hk_store.specs.Facts.{FactsValue}
use Rattle.hk_store.specs.Reads.{with_facts}

-- the tables that rows and ends show at t
abbrev shown_of : finmap.FinMap version_key_cmp RowValue → finmap.FinMap version_key_cmp ℕ → ℕ → Tables
shown_of rows ends t = visible (with_facts (record { rows = rows; ends = ends })) t

pub same_shown : (c : Content) (t : ℕ) (f : FactsValue) → f.rows ≡ c.rows → f.ends ≡ c.ends → visible (with_facts f) t ≡ visible c t
same_shown c t f rows ends = ap (λ m. shown_of m f.ends t) rows ∙ ap (λ m. shown_of c.rows m t) ends

refused_so : (a b : Bool) (old soon why : Refusal) (given : AnswerValue) → Some why ≡ cond a (Some old) (cond b (Some soon) None) → cond a (Err old) (cond b (Err soon) (Ok given)) ≡ Err why
refused_so true b old soon why given e = cc
refused_so false true old soon why given e = cc
refused_so false false old soon why given e = absurd cc

given_so : (a b : Bool) (old soon : Refusal) (given : AnswerValue) → None ≡ cond a (Some old) (cond b (Some soon) None) → cond a (Err old) (cond b (Err soon) (Ok given)) ≡ Ok given
given_so true b old soon given e = absurd cc
given_so false true old soon given e = absurd cc
given_so false false old soon given e = refl

pub can_be_asked : (c : Content) (t : ℕ) (q : Query) → nat_lt t c.horizon ≡ false → nat_lt (readable c) t ≡ false → reply c t q ≡ Ok (answer (visible c t) q)
can_be_asked c t q old soon = rw (old, soon) refl

-- a time at which a content can't be asked is refused so
pub refused : (c : Content) (t : ℕ) (q : Query) (why : Refusal) → Some why ≡ time_refusal c t → reply c t q ≡ Err why
refused c t q why e = refused_so (nat_lt t c.horizon) (nat_lt (readable c) t) (TooOld c.horizon) (NotYet (readable c)) why (answer (visible c t) q) e

-- at another it replies with what it shows
pub shown : (c : Content) (t : ℕ) (q : Query) → None ≡ time_refusal c t → reply c t q ≡ Ok (answer (visible c t) q)
shown c t q e = given_so (nat_lt t c.horizon) (nat_lt (readable c) t) (TooOld c.horizon) (NotYet (readable c)) (answer (visible c t) q) e

pub replied : (c : Content) (t : ℕ) (q : Query) (f : FactsValue) → f.rows ≡ c.rows → f.ends ≡ c.ends → None ≡ time_refusal c t
    → (r : Result Answer Refusal) → IfOk r (λ a. answer_seen a ≡ answer (visible (with_facts f) t) q) → IfErr r (λ why. why ≡ Memory)
    → MatchResult r (λ a. reply c t q ≡ Ok (answer_seen a)) (λ why. (reply c t q ≡ Err why) ⊎ ((why ≡ Memory) × (reply c t q ≡ Ok (answer (visible c t) q))))
replied c t q f rows ends free (Ok a) ok err = shown c t q free ∙ ap (λ tables. Ok (answer tables q)) (sym (same_shown c t f rows ends)) ∙ ap Ok (sym ok)
replied c t q f rows ends free (Err why) ok err = inr (err, shown c t q free)

ok_is : (r s : Result AnswerValue Refusal) (a b : AnswerValue) → r ≡ s → r ≡ Ok a → s ≡ Ok b → a ≡ b
ok_is r s a b e f g = cc

-- where the reply is that there is no row, the answer on the facts is that too
pub absent_told : (c : Content) (t : ℕ) (q : Query) (f : FactsValue) → f.rows ≡ c.rows → f.ends ≡ c.ends → None ≡ time_refusal c t
    → (r : Result Answer Refusal) → (answer (visible (with_facts f) t) q ≡ One None → IsOk r) → reply c t q ≡ Ok (One None) → IsOk r
absent_told c t q f rows ends free r told e =
    let none : answer (visible c t) q ≡ One None = ok_is (reply c t q) (reply c t q) (answer (visible c t) q) (One None) refl (shown c t q free) e in
    told (ap (λ tables. answer tables q) (same_shown c t f rows ends) ∙ none)

pub not_absent : (c : Content) (t : ℕ) (q : Query) (why : Refusal) (r : Result Answer Refusal) → reply c t q ≡ Err why → reply c t q ≡ Ok (One None) → IsOk r
not_absent c t q why r told e = absurd (other (reply c t q) told e)
  where
    other : (s : Result AnswerValue Refusal) → s ≡ Err why → s ≡ Ok (One None) → ⊥
    other s f g = cc

-- ---- where memory may run out

-- a time that can't be asked is no want of memory
pub refused_first : (c : Content) (t : ℕ) (why : Refusal) (X : Type 0) → Some why ≡ time_refusal c t → why ≡ Memory → X
refused_first c t why X e m = by (nat_lt t c.horizon) (nat_lt (readable c) t) e
  where
    by : (a b : Bool) → Some why ≡ cond a (Some (TooOld c.horizon)) (cond b (Some (NotYet (readable c))) None) → X
    by true b f = absurd cc
    by false true f = absurd cc
    by false false f = absurd cc

-- where neither a count nor the answer that there is no row is refused, what is refused takes memory
pub needs_memory : (tables : Tables) (q : Query) (r : Result Answer Refusal) → ((table : ℕ) → q ≡ Count table → IsOk r) → (answer tables q ≡ One None → IsOk r) → OnErr r (takes_memory (answer tables q) ≡ true)
needs_memory tables q (Ok a) count absent = tt
needs_memory tables (Get table key) (Err why) count absent = by (finmap.get tables (record { table = table; key = key })) refl
  where
    by : (row : Option RowValue) → finmap.get tables (record { table = table; key = key }) ≡ row → takes_memory (One row) ≡ true
    by (Some row) e = refl
    by None e = absurd (true≢false (sym (absent (ap One e))))
needs_memory tables (Range table low high) (Err why) count absent = refl
needs_memory tables (ByTag table tag) (Err why) count absent = refl
needs_memory tables (Count table) (Err why) count absent = absurd (true≢false (sym (count table refl)))

pub replied_lacks : (c : Content) (t : ℕ) (q : Query) (f : FactsValue) → f.rows ≡ c.rows → f.ends ≡ c.ends → None ≡ time_refusal c t
    → (r : Result Answer Refusal) → ((table : ℕ) → q ≡ Count table → IsOk r) → (answer (visible (with_facts f) t) q ≡ One None → IsOk r) → IfErr r (λ why. why ≡ Memory → asking_may_lack (reply c t q) ≡ true)
replied_lacks c t q f rows ends free (Ok a) count absent = tt
replied_lacks c t q f rows ends free (Err why) count absent = λ m.
    ap asking_may_lack (shown c t q free) ∙ ap (λ tables. takes_memory (answer tables q)) (sym (same_shown c t f rows ends))
    ∙ needs_memory (visible (with_facts f) t) q (Err why) count absent
