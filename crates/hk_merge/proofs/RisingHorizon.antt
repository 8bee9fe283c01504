-- What becomes of a target's own versions where the horizon rises.
use Rattle.std.proofs.Common.{◌≡◌, refl, sym, ap, ◌∙◌, ℕ, subst, map, Bool, true, false, cond, not, true≢false, ◌&&◌, ◌||◌, ◌==◌, nat_le, nat_lt, nat_cmp, is_ge, arith, Option, Some, None, Result, Ok, Err, IfOk, List, [], ◌++◌, max}
use Rattle.std.proofs.lemmas.List.Folds.{list_any-append}
use Rattle.std.proofs.lemmas.Bool.Decides.{nat_tests}
use Rattle.std.specs.Option.{is_some, option_and_then, option_map}
use Rattle.std.specs.Ordering.{eq_by_cmp}
use Rattle.std.specs.FinMap as finmap
use Rattle.std.specs.FinSet as set
use Rattle.std.specs.FinMap.{find}
use Rattle.hk_types.specs.Values.{RowValue}
use Rattle.hk_types.specs.declared.version_key.VersionKey.{VersionKey}
use Rattle.hk_log.specs.Versions.{VersionValue, is_known}
use Rattle.hk_model.specs.History.Rows.{version_key_cmp}
use Rattle.hk_model.specs.Replica.Maps.{or_else}
use Rattle.hk_model.specs.Replica.Content.{Content, at_most, ended_by}
use Rattle.hk_model.specs.Replica.Fragments.{FragmentValue}
use Rattle.hk_model.proofs.Replica.Maps.{version_key_total, find-append}
use Rattle.hk_facts.specs.Facts.{if_known}
use Rattle.hk_store.specs.Facts.{FactsValue, known_at}
use Rattle.hk_store.specs.Drops.{is_among}
use Rattle.hk_store.specs.Indexed.{is_stated, passes_at}
use Rattle.hk_store.specs.Reads.{facts_of_content}
use Rattle.hk_store.specs.Versions.{AreVersionsOf}
use Rattle.hk_merge.specs.Plans.{goes, stays, may_go, row_back, end_back, all_gone, rows_back, ends_back, passes, known_in, rises, is_sent, gone_at, row_back_at, end_back_at, old_come, row_coming, end_coming, row_comes_at, end_comes_at}
use Rattle.hk_store.proofs.PickedVersions.{find_known, unlisted}
use Rattle.hk_store.proofs.StoredFacts.{or_none}
use Rattle.hk_merge.proofs.ListedChange.{among_known}

-- the facts of a state's content, by their parts
pub facts_are : (f : FactsValue) (c : Content) → f.rows ≡ c.rows → f.ends ≡ c.ends → f ≡ facts_of_content c
facts_are f c rows ends = λ i. record { rows = rows i; ends = ends i }

known_is : (x y : VersionValue) → if_known x ≡ Some y → x ≡ y
known_is x y e = by (is_known x) e
  where
    by : (b : Bool) → cond b (Some x) None ≡ Some y → x ≡ y
    by true e = cc
    by false e = absurd cc

-- what has no row born by h, and no end by then, stays
untouched : (whole : Bool) (h : ℕ) (sent : VersionKey → Bool) (q : VersionKey) (r : Option RowValue) (d : Option ℕ) → cond whole (passes_at (λ t. nat_le t h) (option_map (λ row. q.born) r) || passes_at (λ t. nat_le t h) d) (at_most h d) ≡ false → goes whole h sent q (record { row = r; died = d }) ≡ false
untouched true h sent q r d e =
    let parts = neither (passes_at (λ t. nat_le t h) (option_map (λ row. q.born) r)) (passes_at (λ t. nat_le t h) d) e in
    ends d parts.1 ∙ rows r parts.0
  where
    neither : (a b : Bool) → (a || b) ≡ false → (a ≡ false) × (b ≡ false)
    neither false b e = (refl, e)
    neither true b e = absurd (true≢false e)

    ends : (d : Option ℕ) → passes_at (λ t. nat_le t h) d ≡ false → (at_most h d || (is_some r && not (nat_lt h q.born || sent q))) ≡ (is_some r && not (nat_lt h q.born || sent q))
    ends None e = refl
    ends (Some n) e = ap (λ b. b || (is_some r && not (nat_lt h q.born || sent q))) e

    later : (a b : ℕ) → nat_le a b ≡ false → nat_lt b a ≡ true
    later a b e = grind (arith, nat_tests)

    rows : (r : Option RowValue) → passes_at (λ t. nat_le t h) (option_map (λ row. q.born) r) ≡ false → (is_some r && not (nat_lt h q.born || sent q)) ≡ false
    rows None e = refl
    rows (Some row) e = ap (λ b. not (b || sent q)) (later q.born h e)
untouched false h sent q r d e = by (at_most h d) e (is_some r) (nat_lt h q.born)
  where
    by : (k : Bool) → k ≡ false → (a b : Bool) → (k || (a && not (b || not k))) ≡ false
    by true e a b = absurd (true≢false e)
    by false e true true = refl
    by false e true false = refl
    by false e false b = refl

module _ (t : Content) (f : FragmentValue) (up : rises t f ≡ true) (own : List (VersionKey × VersionValue)) (some : VersionKey → Bool) (are : AreVersionsOf (facts_of_content t) some own) (whole : Bool) (by : whole ≡ (f.base == 0)) (may : (q : VersionKey) → some q ≡ may_go whole f.content.horizon (facts_of_content t) q) where
  -- a version that is not listed stays
  stays_whole : (q : VersionKey) (x : VersionValue) → known_at (facts_of_content t) q ≡ Some x → is_among (map (λ e. e.0) own) q ≡ false → goes (f.base == 0) f.content.horizon (is_sent t f) q x ≡ false
  stays_whole q x k e =
      subst (λ y. goes (f.base == 0) f.content.horizon (is_sent t f) q y ≡ false) (known_is _ x k)
      (untouched (f.base == 0) f.content.horizon (is_sent t f) q (finmap.get t.rows q) (finmap.get t.ends q) (ap (λ b. may_go b f.content.horizon (facts_of_content t) q) (sym by) ∙ sym (may q) ∙ unlisted (facts_of_content t) some own are q x k e))

  pub risen_drops : (old new : List VersionKey) → new ≡ old ++ all_gone whole f.content.horizon (is_sent t f) own → (q : VersionKey) → is_among new q ≡ (is_among old q || gone_at t f q)
  risen_drops old new is q =
      ap (λ l. is_among l q) is
      ∙ list_any-append (eq_by_cmp version_key_cmp q) old (all_gone whole f.content.horizon (is_sent t f) own)
      ∙ ap (λ b. is_among old q || b) (
      (λ i. is_among (all_gone (by i) f.content.horizon (is_sent t f) own) q)
      ∙ among_known (facts_of_content t) (goes (f.base == 0) f.content.horizon (is_sent t f)) q own are.known (λ x k e. stays_whole q x k e)
      ∙ ap (λ b. b && passes (goes (f.base == 0) f.content.horizon (is_sent t f) q) (known_in t q)) (sym up))

  pub risen_rows : (old new : List (VersionKey × RowValue)) → new ≡ old ++ rows_back whole f.content.horizon (is_sent t f) own → (q : VersionKey) → find version_key_cmp q new ≡ or_else (find version_key_cmp q old) (row_back_at t f q)
  risen_rows old new is q =
      ap (find version_key_cmp q) is
      ∙ find-append version_key_cmp q old (rows_back whole f.content.horizon (is_sent t f) own)
      ∙ ap (λ x. or_else (find version_key_cmp q old) x) (
      (λ i. find version_key_cmp q (rows_back (by i) f.content.horizon (is_sent t f) own))
      ∙ find_known (facts_of_content t) (row_back (f.base == 0) f.content.horizon (is_sent t f)) q own are.known (λ x k e. ap (λ b. cond (b && stays (f.base == 0) f.content.horizon (is_sent t f) q x) x.row None) (stays_whole q x k e))
      ∙ ap (λ b. cond b (option_and_then (row_back (f.base == 0) f.content.horizon (is_sent t f) q) (known_in t q)) None) (sym up))

  pub risen_ends : (old new : List (VersionKey × ℕ)) → new ≡ old ++ ends_back whole f.content.horizon (is_sent t f) own → (q : VersionKey) → find version_key_cmp q new ≡ or_else (find version_key_cmp q old) (end_back_at t f q)
  risen_ends old new is q =
      ap (find version_key_cmp q) is
      ∙ find-append version_key_cmp q old (ends_back whole f.content.horizon (is_sent t f) own)
      ∙ ap (λ x. or_else (find version_key_cmp q old) x) (
      (λ i. find version_key_cmp q (ends_back (by i) f.content.horizon (is_sent t f) own))
      ∙ find_known (facts_of_content t) (end_back (f.base == 0) f.content.horizon (is_sent t f)) q own are.known (λ x k e. ap (λ b. cond (b && not (at_most f.content.horizon x.died)) x.died None) (stays_whole q x k e))
      ∙ ap (λ b. cond b (option_and_then (end_back (f.base == 0) f.content.horizon (is_sent t f) q) (known_in t q)) None) (sym up))

-- where not the whole is sent, those that ended may go
pub ended_may_go : (whole : Bool) → whole ≡ false → (h : ℕ) (own : FactsValue) (vs : List VersionKey) → ((q : VersionKey) → is_among vs q ≡ ended_by own.ends h q) → (listed : List VersionKey) → listed ≡ vs
    → {E : Type 0} (r : Result (set.FinSet version_key_cmp) E) → IfOk r (λ index. index ≡ set.from_list listed) → IfOk r (λ index. (q : VersionKey) → set.contains index q ≡ may_go whole h own q)
ended_may_go whole part h own vs ended listed same (Ok index) is = λ q.
    ap (λ s. set.contains s q) is
    ∙ set.contains-from_list version_key_total listed q
    ∙ ap (λ l. is_among l q) same
    ∙ ended q
    ∙ ap (λ b. cond b (is_stated own (λ t. nat_le t h) q) (ended_by own.ends h q)) (sym part)
ended_may_go whole part h own vs ended listed same (Err why) is = tt

-- where the horizon does not rise, nothing goes
module _ (t : Content) (f : FragmentValue) (level : rises t f ≡ false) where
  or_false : (b : Bool) → b ≡ (b || false)
  or_false true = refl
  or_false false = refl

  pub level_drops : (b : Bool) (q : VersionKey) → b ≡ (b || gone_at t f q)
  level_drops b q = or_false b ∙ ap (λ r. b || (r && passes (goes (f.base == 0) f.content.horizon (is_sent t f) q) (known_in t q))) (sym level)

  pub level_rows : (x : Option RowValue) (q : VersionKey) → x ≡ or_else x (row_back_at t f q)
  level_rows x q = sym (or_none x) ∙ ap (λ r. or_else x (cond r (option_and_then (row_back (f.base == 0) f.content.horizon (is_sent t f) q) (known_in t q)) None)) (sym level)

  pub level_ends : (x : Option ℕ) (q : VersionKey) → x ≡ or_else x (end_back_at t f q)
  level_ends x q = sym (or_none x) ∙ ap (λ r. or_else x (cond r (option_and_then (end_back (f.base == 0) f.content.horizon (is_sent t f) q) (known_in t q)) None)) (sym level)

pub no_rise : (a b : ℕ) → is_ge (nat_cmp a b) ≡ true → nat_lt a b ≡ false
no_rise a b e = grind (arith, nat_tests)

pub some_rise : (a b : ℕ) → is_ge (nat_cmp a b) ≡ false → nat_lt a b ≡ true
some_rise a b e = grind (arith, nat_tests)

-- ---- what is sent

module _ (t : Content) (f : FragmentValue) (own : FactsValue) (owns : own ≡ facts_of_content t) (old : Bool) (by : old ≡ old_come t f) (h : ℕ) (at : h ≡ max t.horizon f.content.horizon) where
  pub come_rows : (before now new : List (VersionKey × RowValue)) → before ≡ [] → ((q : VersionKey) → find version_key_cmp q now ≡ or_else (find version_key_cmp q before) (row_back_at t f q))
      → ((q : VersionKey) → find version_key_cmp q new ≡ or_else (find version_key_cmp q now) (row_coming own old h f.content q)) → (q : VersionKey) → find version_key_cmp q new ≡ or_else (row_back_at t f q) (row_comes_at t f q)
  come_rows before now new none back is q = is q ∙ (λ i. or_else ((back q ∙ ap (λ es. or_else (find version_key_cmp q es) (row_back_at t f q)) none) i) (row_coming (owns i) (by i) (at i) f.content q))

  pub come_ends : (before now new : List (VersionKey × ℕ)) → before ≡ [] → ((q : VersionKey) → find version_key_cmp q now ≡ or_else (find version_key_cmp q before) (end_back_at t f q))
      → ((q : VersionKey) → find version_key_cmp q new ≡ or_else (find version_key_cmp q now) (end_coming own old h f.content q)) → (q : VersionKey) → find version_key_cmp q new ≡ or_else (end_back_at t f q) (end_comes_at t f q)
  come_ends before now new none back is q = is q ∙ (λ i. or_else ((back q ∙ ap (λ es. or_else (find version_key_cmp q es) (end_back_at t f q)) none) i) (end_coming (owns i) (by i) (at i) f.content q))
