-- What joining gives, refusal by refusal.
use Rattle.std.proofs.Common.{◌≡◌, refl, sym, ap, ◌∙◌, subst, ℕ, ◌<◌, Bool, true, false, cond, not, ◌==◌, ◌++◌, max, Option, Some, None, length, Result, Ok, Err, OnOk, OnErr, IfErr, ◌⊎◌, inl, inr, nat_lt, arith}
use Rattle.std.proofs.lemmas.Bool.Decides.{nat_tests}
use Rattle.std.specs.FinMap as finmap
use Rattle.hk_types.specs.Values.{RowValue, ConfigValue}
use Rattle.hk_types.specs.declared.version_key.VersionKey.{VersionKey}
use Rattle.hk_types.specs.declared.faults.Refusal.{Refusal}
use Rattle.hk_types.specs.declared.faults.Refusal.TheVariants.{ForeignLog, WrongStreams, Gap, Conflict, Memory}
use Rattle.hk_model.specs.Replica.Content.{Content, readable, at_most}
use Rattle.hk_model.specs.Replica.Fragments.{FragmentValue, cut}
use Rattle.hk_model.specs.Replica.Lawful.{IsLawful}
use Rattle.hk_model.specs.Replica.Replicas.{Represents}
use Rattle.hk_model.specs.Replica.Rules.{contents_conflict, join_result, content_after_join}
use Rattle.hk_model.proofs.Replica.Maps.{version_key_total, version_key_same, get-retain, get-without_ended}
use Rattle.hk_model.proofs.Laws.{merge_law_proof}
use Rattle.hk_merge.specs.Calls.{Joins, Merges, MergesOf, refusal_of}
use Rattle.hk_state.proofs.Represented.{inside, has_conflict_with}

-- ---- where the log fits

module _ (t : Content) (f : FragmentValue) (streams : ℕ) (as_many : length f.content.streams ≡ streams) where
  abbrev pub wrong_log_by : Option Refusal
  wrong_log_by = cond (not (f.content.log == t.log)) (Some ForeignLog) (cond (not (streams == length t.streams)) (Some WrongStreams) None)

  past_log : Result Content Refusal
  past_log = cond (nat_lt (readable t) f.base) (Err (Gap f.base (readable t))) (cond (contents_conflict t f.content) (Err Conflict) (Ok (content_after_join t f)))

  by_log : join_result t f ≡ cond (not (f.content.log == t.log)) (Err ForeignLog) (cond (not (streams == length t.streams)) (Err WrongStreams) past_log)
  unfolding past_log
  by_log = ap (λ n. cond (not (f.content.log == t.log)) (Err ForeignLog) (cond (not (n == length t.streams)) (Err WrongStreams) past_log)) as_many

  -- what is of no such log is refused so
  pub join_refused : (why : Refusal) → wrong_log_by ≡ Some why → Joins t t f (Err why)
  join_refused why m = (refl, inl (by_log ∙ first (not (f.content.log == t.log)) (not (streams == length t.streams)) m))
    where
      first : (a b : Bool) → cond a (Some ForeignLog) (cond b (Some WrongStreams) None) ≡ Some why → cond a (Err ForeignLog) (cond b (Err WrongStreams) past_log) ≡ Err why
      first true b e = cc
      first false true e = cc
      first false false e = cc

  join_fit : wrong_log_by ≡ None → join_result t f ≡ past_log
  join_fit fit = by_log ∙ first (not (f.content.log == t.log)) (not (streams == length t.streams)) fit
    where
      first : (a b : Bool) → ◌≡◌ {A = Option Refusal} (cond a (Some ForeignLog) (cond b (Some WrongStreams) None)) None → cond a (Err ForeignLog) (cond b (Err WrongStreams) past_log) ≡ past_log
      first true b e = cc
      first false true e = cc
      first false false e = refl

  -- a base above the readable mark leaves a gap
  pub join_gap : wrong_log_by ≡ None → nat_lt (readable t) f.base ≡ true → join_result t f ≡ Err (Gap f.base (readable t))
  unfolding past_log
  join_gap fit gap = join_fit fit ∙ ap (λ b. cond b (Err (Gap f.base (readable t))) (cond (contents_conflict t f.content) (Err Conflict) (Ok (content_after_join t f)))) gap

  module _ (fit : wrong_log_by ≡ None) (no_gap : nat_lt (readable t) f.base ≡ false) where
    join_open : join_result t f ≡ cond (contents_conflict t f.content) (Err Conflict) (Ok (content_after_join t f))
    unfolding past_log
    join_open = join_fit fit ∙ ap (λ b. cond b (Err (Gap f.base (readable t))) (cond (contents_conflict t f.content) (Err Conflict) (Ok (content_after_join t f)))) no_gap

    pub join_conflict : contents_conflict t f.content ≡ true → join_result t f ≡ Err Conflict
    join_conflict e = join_open ∙ ap (λ b. cond b (Err Conflict) (Ok (content_after_join t f))) e

    module _ (agree : contents_conflict t f.content ≡ false) where
      pub join_done : join_result t f ≡ Ok (content_after_join t f)
      join_done = join_open ∙ ap (λ b. cond b (Err Conflict) (Ok (content_after_join t f))) agree

    -- where it conflicts, or else memory ran out, it is refused
    pub join_either : (r : Result (Unit {0}) Refusal) (new : Content) → OnOk r (new ≡ content_after_join t f) → OnOk r (contents_conflict t f.content ≡ false) → IfErr r (λ why. why ≡ refusal_of t f) → OnErr r (new ≡ t) → Joins t new f r
    join_either (Ok done) new ok agrees err kept = join_done agrees ∙ ap Ok (sym ok)
    join_either (Err why) new ok agrees err kept = (kept, by (contents_conflict t f.content) refl)
      where
        by : (b : Bool) → contents_conflict t f.content ≡ b → (join_result t f ≡ Err why) ⊎ ((why ≡ Memory) × ((c : Content) × (join_result t f ≡ Ok c)))
        by true e = inl (join_conflict e ∙ ap Err (sym (err ∙ ap (λ b. cond b Conflict Memory) e)))
        by false e = inr (err ∙ ap (λ b. cond b Conflict Memory) e, (content_after_join t f, join_done e))

-- what is of a log fits as its configuration does
pub fits_by : (t : Content) (f : FragmentValue) (config : ConfigValue) (log : config.log ≡ f.content.log) (streams : length f.content.streams ≡ config.streams) {r : Option Refusal}
    → cond (not (config.log == t.log)) (Some ForeignLog) (cond (not (config.streams == length t.streams)) (Some WrongStreams) None) ≡ r → wrong_log_by t f config.streams streams ≡ r
fits_by t f config log streams fits = ap (λ n. cond (not (n == t.log)) (Some ForeignLog) (cond (not (config.streams == length t.streams)) (Some WrongStreams) None)) (sym log) ∙ fits

-- ---- the whole of a content

module _ (c : Content) (lawful : IsLawful c) where
  whole_rows : finmap.retain_keys c.rows (λ v. nat_lt 0 v.born) ≡ c.rows
  whole_rows = finmap.same_map version_key_total version_key_same _ _ (λ q. get-retain version_key_total version_key_same c.rows (λ v. nat_lt 0 v.born) q ∙ here q (finmap.get c.rows q) refl)
    where
      later : (n : ℕ) → 0 < n → nat_lt 0 n ≡ true
      later n l = grind (arith, nat_tests)

      here : (q : VersionKey) (x : Option RowValue) → finmap.get c.rows q ≡ x → cond (nat_lt 0 q.born) x None ≡ x
      here q None e = either (nat_lt 0 q.born)
        where
          either : (b : Bool) → ◌≡◌ {A = Option RowValue} (cond b None None) None
          either true = refl
          either false = refl
      here q (Some r) e = ap (λ b. cond b (Some r) None) (later q.born (lawful.born q r e))

  whole_ends : (cut c 0).content.ends ≡ c.ends
  whole_ends = finmap.same_map version_key_total version_key_same _ _ (λ q. get-without_ended c.ends 0 c.ends q ∙ here q (finmap.get c.ends q) refl)
    where
      later : (a d : ℕ) → a < d → at_most 0 (Some d) ≡ false
      later a d l = grind (arith, nat_tests)

      here : (q : VersionKey) (x : Option ℕ) → finmap.get c.ends q ≡ x → cond (not (at_most 0 x)) x None ≡ x
      here q None e = refl
      here q (Some d) e = ap (λ b. cond (not b) (Some d) None) (later q.born d (lawful.end_later q d e))

  pub whole_is : record { base = 0; content = c } ≡ cut c 0
  whole_is = λ i. record { base = 0; content = record { log = c.log; horizon = c.horizon; rows = sym whole_rows i; ends = sym whole_ends i; streams = c.streams } }

-- ---- merges of what represents items

pub merges_of : (old new peer : Content) (r : Result (Unit {0}) Refusal) → Merges old new peer r → MergesOf old new peer r
merges_of old new peer (Ok done) gave config history own others g h is a b =
    let law = merge_law_proof config history is own others g h old peer a b in
    (subst (Represents config history (own ++ others) (max g h)) (inside _ _ (sym law.1 ∙ gave)) law.2, tt)
merges_of old new peer (Err why) gave config history own others g h is a b =
    let law = merge_law_proof config history is own others g h old peer a b in (
      tt,
      elim gave.1 [
        | inl e ↦ absurd (has_conflict_with _ why (sym law.1 ∙ e))
        | inr m ↦ m.0
      ],
    )
