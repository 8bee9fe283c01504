-- What is expected where memory ran out.
use Rattle.std.proofs.Common.{◌≡◌, refl, sym, ap, ◌∙◌, ℕ, ◌<◌, ◌≤◌, ◌⊎◌, ltb-true, eqb-true, inl, inr, Bool, true, false, cond, not, true≢false, ◌==◌, length, nat_lt, List, [], ◌∷◌, ◌||◌, arith, Option, None, Some, Ok, Err, Result, MatchResult, OnErr}
use Rattle.std.proofs.lemmas.Bool.Decides.{nat_tests}
use Rattle.std.proofs.lemmas.Bool.{lt-ltb, le-ltb, ltb-false, eq-eqb}
use Rattle.hk_types.specs.Values.{ConfigValue, same_row}
use Rattle.hk_types.specs.declared.faults.Refusal.{Refusal}
use Rattle.hk_types.specs.declared.faults.Refusal.TheVariants.{ForeignLog, WrongStreams, Gap, Conflict, TooOld, NotYet, Memory}
use Rattle.hk_log.specs.declared.item.Item.{Item}
use Rattle.hk_model.specs.declared.told.Told.{Told}
use Rattle.hk_model.specs.World.Events.{told_seen}
use Rattle.hk_model.specs.Replica.Content.{Content, readable}
use Rattle.hk_model.specs.Replica.Answers.{AnswerValue, answer}
use Rattle.hk_model.specs.History.Histories.{History, commits, table_at}
use Rattle.hk_model.specs.declared.query.Query.{Query}
use Rattle.hk_model.specs.Replica.Fragments.{FragmentValue, cut, part}
use Rattle.hk_model.specs.Replica.Items.{log_of, stream_no, wrong_log}
use Rattle.hk_model.specs.Replica.Rules.{join_result, content_after_join, contents_conflict, gather_result, gather_result_unless, first_wrong_log, conflict}
use Rattle.hk_model.specs.Replica.Maps.{or_else}
use Rattle.hk_model.specs.History.Facts.{row_facts, end_facts}
use Rattle.hk_model.specs.World.Worlds.{ToldValue, asked_primary, readable_on_primary, delta_join, outcome_by, outcome_of_batch, outcome_of_reply}
use Rattle.hk_model.specs.World.Worlds.ToldValue.{Answered, Refused}
use Rattle.hk_query.specs.Memory.{asking_may_lack, takes_memory}
use Rattle.hk_acting.specs.Telling.{Gives, is_first, is_first_outcome, is_memory, is_memory_outcome}

-- a refusal was passed on, or it was out of memory
abbrev pub Passes : Refusal → Result Told Refusal → Type 0
Passes why result = MatchResult result (λ outcome. (told_seen outcome ≡ Refused why) × (is_memory why ≡ false)) (λ e. (e ≡ Memory) × (why ≡ Memory))

-- what is so is so where there is an error
pub on_err : {P : Type 0} → (result : Result Told Refusal) → P → OnErr result P
on_err (Ok outcome) p = tt
on_err (Err why) p = p

-- a call refused with what was expected, or because memory ran out where something else was that takes some
pub refusal_where : {C : Type 0} (expected : Result C Refusal → ToldValue × Content) (x : Result C Refusal) (old new : Content) (why : Refusal) (result : Result Told Refusal)
    → ((w : Refusal) → expected (Err w) ≡ (Refused w, old))
    → new ≡ old → (x ≡ Err why) ⊎ ((why ≡ Memory) × (is_first_outcome (expected x).0 ≡ false)) → Passes why result → Gives (expected x) old new result
refusal_where expected x old new why (Ok outcome) errs same (inl e) m =
    let is : expected x ≡ (Refused why, old) = ap expected e ∙ errs why in
    (m.0 ∙ sym (ap (λ (p : ToldValue × Content). p.0) is), same ∙ sym (ap (λ (p : ToldValue × Content). p.1) is), ap is_memory_outcome m.0 ∙ m.1)
refusal_where expected x old new why (Ok outcome) errs same (inr p) m = absurd (true≢false (sym (ap is_memory p.0) ∙ m.1))
refusal_where expected x old new why (Err e) errs same (inl f) m =
    let is : expected x ≡ (Refused why, old) = ap expected f ∙ errs why in
    (m.0, same, ap (λ (p : ToldValue × Content). is_first_outcome p.0) is ∙ ap is_first m.1)
refusal_where expected x old new why (Err e) errs same (inr p) m = (m.0, same, p.1)

-- so where all that may be expected beside a refusal takes some
pub refusal_gives : {C : Type 0} (expected : Result C Refusal → ToldValue × Content) (x : Result C Refusal) (old new : Content) (why : Refusal) (result : Result Told Refusal)
    → ((w : Refusal) → expected (Err w) ≡ (Refused w, old)) → ((c : C) → x ≡ Ok c → is_first_outcome (expected (Ok c)).0 ≡ false)
    → new ≡ old → (x ≡ Err why) ⊎ ((why ≡ Memory) × ((c : C) × (x ≡ Ok c))) → Passes why result → Gives (expected x) old new result
refusal_gives {C} expected x old new why result errs oks same p m =
    refusal_where expected x old new why result errs same
    (elim p [ inl e ↦ inl e | inr q ↦ inr (q.0, ap (λ (y : Result C Refusal). is_first_outcome (expected y).0) q.1.1 ∙ oks q.1.0 q.1.1) ]) m

-- a join tells a gap alone of what is tested before anything grows
pub joined_first : (c : Content) (f : FragmentValue) → f.base ≤ readable c → is_first_outcome (outcome_by c (join_result c f)).0 ≡ false
joined_first c f near = by (f.content.log == c.log) (length f.content.streams == length c.streams) (nat_lt (readable c) f.base) (contents_conflict c f.content) (grind (arith, nat_tests))
  where
    by : (log streams gap facts_conflict : Bool) → gap ≡ false → is_first_outcome (outcome_by c (cond (not log) (Err ForeignLog) (cond (not streams) (Err WrongStreams) (cond gap (Err (Gap f.base (readable c))) (cond facts_conflict (Err Conflict) (Ok (content_after_join c f))))))).0 ≡ false
    by false streams gap facts_conflict e = refl
    by true false gap facts_conflict e = refl
    by true true true facts_conflict e = absurd (true≢false e)
    by true true false true e = refl
    by true true false false e = refl

wrong_log_first : (log streams : ℕ) (item : Item) (why : Refusal) → wrong_log log streams item ≡ Some why → is_first why ≡ false
wrong_log_first log streams item why = by (log_of item == log) (nat_lt streams (stream_no item))
  where
    by : (same many : Bool) → cond (not same) (Some ForeignLog) (cond many (Some WrongStreams) None) ≡ Some why → is_first why ≡ false
    by false many e = let w : why ≡ ForeignLog = cc in ap is_first w
    by true true e = let w : why ≡ WrongStreams = cc in ap is_first w
    by true false e = absurd cc

first_wrong_log_first : (config : ConfigValue) (items : List Item) (why : Refusal) → first_wrong_log config items ≡ Some why → is_first why ≡ false
first_wrong_log_first config [] why e = absurd cc
first_wrong_log_first config (item ∷ items) why e = either (wrong_log config.log config.streams item) (first_wrong_log config items) (wrong_log_first config.log config.streams item why) (first_wrong_log_first config items why) e
  where
    either : (x y : Option Refusal) → (x ≡ Some why → is_first why ≡ false) → (y ≡ Some why → is_first why ≡ false) → or_else x y ≡ Some why → is_first why ≡ false
    either None y own rest e = rest e
    either (Some z) y own rest e = own e

-- what gathered items tell
pub batch_first : (c : Content) (config : ConfigValue) (items : List Item) → is_first_outcome (outcome_of_batch c (gather_result config items)).0 ≡ false
batch_first c config items = by (first_wrong_log config items) (first_wrong_log_first config items)
  where
    facts_conflict : (b : Bool) → is_first_outcome (outcome_of_batch c (cond b (Err Conflict) (Ok (part config items 0 0)))).0 ≡ false
    facts_conflict true = refl
    facts_conflict false = joined_first c (part config items 0 0) (omega arith)

    by : (x : Option Refusal) → ((why : Refusal) → x ≡ Some why → is_first why ≡ false) → is_first_outcome (outcome_of_batch c (gather_result_unless config items x)).0 ≡ false
    by (Some why) h = h why refl
    by None h = facts_conflict (conflict same_row (row_facts items) || conflict (λ a b. a == b) (end_facts items))

-- ---- questions and marks

-- a refused reply is none of those that are tested first, nor one that takes no memory, where memory ran out
lack_first : (x : Result AnswerValue Refusal) → asking_may_lack x ≡ true → is_first_outcome (outcome_of_reply x) ≡ false
lack_first (Ok a) e = ap not e
lack_first (Err why) e = absurd (true≢false (sym e))

-- so where the refusal was passed on as out of memory
pub reply_err : (x : Result AnswerValue Refusal) (why : Refusal) (result : Result Told Refusal) → (why ≡ Memory → asking_may_lack x ≡ true) → Passes why result → OnErr result (is_first_outcome (outcome_of_reply x) ≡ false)
reply_err x why (Ok outcome) lacks m = tt
reply_err x why (Err e) lacks m = lack_first x (lacks m.1)

-- a primary that ran out of memory was asked at a time that may be read, for an answer that takes some
asked_first : (config : ConfigValue) (history : History) (t : ℕ) (q : Query) (why : Refusal) → (readable_on_primary config history < t → why ≡ NotYet (readable_on_primary config history))
    → (t ≤ readable_on_primary config history → takes_memory (answer (table_at (commits history) t) q) ≡ true) → why ≡ Memory → is_first_outcome (asked_primary config history t q) ≡ false
asked_first config history t q why early lacks m =
    let top = readable_on_primary config history in
    elim (nat_lt top t) as (λ b. nat_lt top t ≡ b → is_first_outcome (cond b (Refused (NotYet top)) (Answered (answer (table_at (commits history) t) q))) ≡ false) [
      | true ↦ λ e. let w = early (ltb-true top t e) in absurd (true≢false (sym (ap is_first w) ∙ ap is_first m))
      | false ↦ λ e. ap not (lacks (ltb-false top t e))
    ] refl

pub asked_err : (config : ConfigValue) (history : History) (t : ℕ) (q : Query) (why : Refusal) (result : Result Told Refusal) → (readable_on_primary config history < t → why ≡ NotYet (readable_on_primary config history))
    → (t ≤ readable_on_primary config history → takes_memory (answer (table_at (commits history) t) q) ≡ true) → Passes why result → OnErr result (is_first_outcome (asked_primary config history t q) ≡ false)
asked_err config history t q why (Ok outcome) early lacks m = tt
asked_err config history t q why (Err e) early lacks m = asked_first config history t q why early lacks m.1

-- ---- deltas

-- where the source is of the same log, a base above the readable mark leaves a gap
pub delta_gap : (a b : Content) (base : ℕ) → b.horizon ≤ base → a.log ≡ b.log → length a.streams ≡ length b.streams → readable a < base → delta_join a b base ≡ (Refused (Gap base (readable a)), a)
delta_gap a b base old log streams far =
    ap (λ t. cond t (Refused (TooOld b.horizon), a) (outcome_by a (join_result a (cut b base)))) (le-ltb base b.horizon old)
    ∙ ap (λ t. outcome_by a (cond (not t) (Err ForeignLog) (cond (not (length b.streams == length a.streams)) (Err WrongStreams) (cond (nat_lt (readable a) base) (Err (Gap base (readable a))) (cond (contents_conflict a (cut b base).content) (Err Conflict) (Ok (content_after_join a (cut b base)))))))) (eq-eqb b.log a.log (sym log))
    ∙ ap (λ t. outcome_by a (cond (not t) (Err WrongStreams) (cond (nat_lt (readable a) base) (Err (Gap base (readable a))) (cond (contents_conflict a (cut b base).content) (Err Conflict) (Ok (content_after_join a (cut b base))))))) (eq-eqb (length b.streams) (length a.streams) (sym streams))
    ∙ ap (λ t. outcome_by a (cond t (Err (Gap base (readable a))) (cond (contents_conflict a (cut b base).content) (Err Conflict) (Ok (content_after_join a (cut b base)))))) (lt-ltb (readable a) base far)

-- else nothing that is tested first is told, from the horizon on
pub delta_first : (a b : Content) (base : ℕ) → b.horizon ≤ base → (a.log ≡ b.log → length a.streams ≡ length b.streams → base ≤ readable a) → is_first_outcome (delta_join a b base).0 ≡ false
delta_first a b base old near =
    ap (λ t. is_first_outcome (cond t (Refused (TooOld b.horizon), a) (outcome_by a (join_result a (cut b base)))).0) (le-ltb base b.horizon old)
    ∙ by (b.log == a.log) (length b.streams == length a.streams) (nat_lt (readable a) base) (contents_conflict a (cut b base).content)
    (λ l s. le-ltb (readable a) base (near (sym (eqb-true b.log a.log l)) (sym (eqb-true (length b.streams) (length a.streams) s))))
  where
    by : (log streams gap facts_conflict : Bool) → (log ≡ true → streams ≡ true → gap ≡ false) → is_first_outcome (outcome_by a (cond (not log) (Err ForeignLog) (cond (not streams) (Err WrongStreams) (cond gap (Err (Gap base (readable a))) (cond facts_conflict (Err Conflict) (Ok (content_after_join a (cut b base)))))))).0 ≡ false
    by false streams gap facts_conflict e = refl
    by true false gap facts_conflict e = refl
    by true true true facts_conflict e = absurd (true≢false (e refl refl))
    by true true false true e = refl
    by true true false false e = refl
