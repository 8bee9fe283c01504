-- A change that is worked out version by version leaves what joining gives.
use Rattle.std.proofs.Common.{◌≡◌, refl, sym, ap, ◌∙◌, ℕ, ◌<◌, max, Bool, true, false, cond, not, ◌&&◌, ◌||◌, ◌==◌, Option, Some, None, List, nat_lt, nat_le, arith, true≢false, eqb-true}
use Rattle.std.proofs.lemmas.Bool.Decides.{nat_tests}
use Rattle.std.proofs.lemmas.Bool.{or_parts, not-false}
use Rattle.std.specs.Option.{is_some, option_and_then}
use Rattle.std.specs.Ordering.{eq_by_cmp, is_eq}
use Rattle.std.specs.Cmp.{tied_itself}
use Rattle.std.specs.FinMap as finmap
use Rattle.std.specs.FinMap.{find}
use Rattle.hk_types.specs.Values.{RowValue, same_row}
use Rattle.hk_types.specs.declared.version_key.VersionKey.{VersionKey}
use Rattle.hk_log.specs.Versions.{VersionValue}
use Rattle.hk_model.specs.History.Rows.{version_key_cmp}
use Rattle.hk_model.specs.Replica.Maps.{or_else, values_conflict, maps_conflict, union}
use Rattle.hk_model.specs.Replica.Streams.{all_together}
use Rattle.hk_model.specs.Replica.Content.{Content, at_most, ended_by}
use Rattle.hk_model.specs.Replica.Fragments.{FragmentValue}
use Rattle.hk_model.specs.Replica.Lawful.{IsLawful}
use Rattle.hk_model.specs.Replica.Rules.{contents_conflict, content_after_join}
use Rattle.hk_model.proofs.Replica.Maps.{version_key_total, version_key_same, get-union, get-retain, get-without_ended}
use Rattle.hk_facts.specs.Facts.{if_known, row_of, died_of}
use Rattle.hk_state.specs.declared.apply.Change.{Change}
use Rattle.hk_store.specs.Drops.{is_among}
use Rattle.hk_store.specs.Reads.{facts_of_content}
use Rattle.hk_state.specs.Changes.{content_after_change}
use Rattle.hk_store.proofs.StoredFacts.{known_row, known_end}
use Rattle.hk_store.proofs.Conflicts.{any_at, equal, differ_left}
use Rattle.hk_store.proofs.SameRows.{same_value}
use Rattle.hk_merge.specs.Plans.{stays, goes, row_back, end_back, passes, known_in, is_sent, old_come, gone_at, row_back_at, end_back_at, row_comes, end_comes, row_comes_at, end_comes_at}

-- ---- equal rows, equal ends

alike_at : {X : Type 0} (alike : X → X → Bool) (m n : finmap.FinMap version_key_cmp X) → maps_conflict alike m n ≡ false → (q : VersionKey) → values_conflict alike (finmap.get m q) (finmap.get n q) ≡ false
alike_at alike m n none q = case (values_conflict alike (finmap.get m q) (finmap.get n q)) refl
  where
    case : (b : Bool) → values_conflict alike (finmap.get m q) (finmap.get n q) ≡ b → b ≡ false
    case false e = refl
    case true e =
        absurd (true≢false (
        sym (any_at (eq_by_cmp version_key_cmp) (λ a. ap is_eq (tied_itself version_key_total a)) (λ a b t. version_key_same a b (equal _ t)) (λ k. values_conflict alike (finmap.get m k) (finmap.get n k)) (finmap.keys m) q e (sym (finmap.contains_key-keys m q) ∙ differ_left alike (finmap.get m q) (finmap.get n q) e))
        ∙ none))

agreed : {X : Type 0} (alike : X → X → Bool) (tell : (a b : X) → alike a b ≡ true → a ≡ b) (r s : Option X) → values_conflict alike r s ≡ false → (x y : X) → r ≡ Some x → s ≡ Some y → x ≡ y
agreed alike tell r s none x y er es = tell x y (not-false (alike x y) ((λ i. values_conflict alike (sym er i) (sym es i)) ∙ none))

-- ---- one version, by cases

module _ (b ended : Bool) where
  -- whether a row stays, where the whole is sent, and where a part is
  abbrev stays_by : Bool → Option RowValue → Bool
  stays_by whole s = b || cond whole (is_some s) (not ended)

  abbrev gone_by : Bool → Option RowValue → Option RowValue → Bool
  gone_by whole r s = ended || (is_some r && not (stays_by whole s))

-- a version's row, where the horizon rises
row_case : (b whole ended : Bool) (r s : Option RowValue) → ((x y : RowValue) → r ≡ Some x → s ≡ Some y → x ≡ y)
    → or_else (cond (not (gone_by b ended whole r s)) r None) (or_else (cond (gone_by b ended whole r s && stays_by b ended whole s) r None) (cond ((b || whole) && not (is_some r)) s None))
    ≡ or_else (cond (b || (not whole && not ended)) r None) (cond (b || whole) s None)
row_case true true true None None same = refl
row_case true true true None (Some y) same = refl
row_case true true true (Some x) None same = refl
row_case true true true (Some x) (Some y) same = refl
row_case true true false None None same = refl
row_case true true false None (Some y) same = refl
row_case true true false (Some x) None same = refl
row_case true true false (Some x) (Some y) same = refl
row_case true false true None None same = refl
row_case true false true None (Some y) same = refl
row_case true false true (Some x) None same = refl
row_case true false true (Some x) (Some y) same = refl
row_case true false false None None same = refl
row_case true false false None (Some y) same = refl
row_case true false false (Some x) None same = refl
row_case true false false (Some x) (Some y) same = refl
row_case false true true None None same = refl
row_case false true true None (Some y) same = refl
row_case false true true (Some x) None same = refl
row_case false true true (Some x) (Some y) same = ap Some (same x y refl refl)
row_case false true false None None same = refl
row_case false true false None (Some y) same = refl
row_case false true false (Some x) None same = refl
row_case false true false (Some x) (Some y) same = ap Some (same x y refl refl)
row_case false false true None None same = refl
row_case false false true None (Some y) same = refl
row_case false false true (Some x) None same = refl
row_case false false true (Some x) (Some y) same = refl
row_case false false false None None same = refl
row_case false false false None (Some y) same = refl
row_case false false false (Some x) None same = refl
row_case false false false (Some x) (Some y) same = refl

-- a version's end, where the horizon rises to h
end_case : (h : ℕ) (gone : Bool) (e d : Option ℕ) → (at_most h e ≡ true → gone ≡ true) → ((x y : ℕ) → e ≡ Some x → d ≡ Some y → x ≡ y)
    → or_else (cond (not gone) e None) (or_else (cond (gone && not (at_most h e)) e None) (cond (not (at_most h d) && not (is_some e)) d None)) ≡ or_else (cond (not (at_most h e)) e None) (cond (not (at_most h d)) d None)
end_case h gone None d goes same = none gone
  where
    first : (x y : Option ℕ) (k : Bool) → or_else (cond k None None) x ≡ x
    first x y true = refl
    first x y false = refl

    both : (k : Bool) → (k && true) ≡ k
    both true = refl
    both false = refl

    none : (k : Bool) → or_else (cond (not k) None None) (or_else (cond (k && true) None None) (cond (not (at_most h d) && true) d None)) ≡ cond (not (at_most h d)) d None
    none true = ap (λ c. cond c d None) (both (not (at_most h d)))
    none false = ap (λ c. cond c d None) (both (not (at_most h d)))
end_case h gone (Some a) d goes same = cases (nat_le a h) refl gone (λ t. goes t)
  where
    dead : (d : Option ℕ) → ((y : ℕ) → d ≡ Some y → a ≡ y) → nat_le a h ≡ true → None ≡ cond (not (at_most h d)) d None
    dead None is t = refl
    dead (Some y) is t = sym (ap (λ c. cond (not c) (Some y) None) (ap (λ n. nat_le n h) (sym (is y refl)) ∙ t))

    nothing : (k : Bool) (x : Option ℕ) → cond (k && false) x None ≡ None
    nothing true x = refl
    nothing false x = refl

    cases : (t : Bool) → nat_le a h ≡ t → (k : Bool) → (t ≡ true → k ≡ true)
        → or_else (cond (not k) (Some a) None) (or_else (cond (k && not t) (Some a) None) (cond (not (at_most h d) && false) d None)) ≡ or_else (cond (not t) (Some a) None) (cond (not (at_most h d)) d None)
    cases true e true g = nothing (not (at_most h d)) d ∙ dead d (λ y ed. same a y refl ed) e
    cases true e false g = absurd (true≢false (sym (g refl)))
    cases false e true g = refl
    cases false e false g = refl

and_true : (b : Bool) → (b && true) ≡ b
and_true true = refl
and_true false = refl

or_true : (b : Bool) → (b || true) ≡ true
or_true true = refl
or_true false = refl

module _ (th fh base born : ℕ) (r s : Option RowValue) (e d : Option ℕ) (above : (x : ℕ) → e ≡ Some x → th < x) where
  abbrev h : ℕ
  h = max th fh

  abbrev gone : Bool
  gone = gone_by (nat_lt fh born) (at_most fh e) (base == 0) r s

  abbrev changed_row : Bool → ℕ → Option RowValue
  changed_row up g =
      or_else (cond (not (up && gone)) r None) (or_else (cond up (cond (gone && stays_by (nat_lt fh born) (at_most fh e) (base == 0) s) r None) None) (cond ((nat_lt g born || ((base == 0) && (fh == g))) && not (is_some r)) s None))

  abbrev joined_row : ℕ → Option RowValue
  joined_row g = or_else (cond (nat_lt g born || (((th == g) || nat_lt 0 base) && not (at_most g e))) r None) (cond (nat_lt g born || ((base == 0) && (fh == g))) s None)

  abbrev changed_end : Bool → ℕ → Option ℕ
  changed_end up g = or_else (cond (not (up && gone)) e None) (or_else (cond up (cond (gone && not (at_most fh e)) e None) None) (cond (not (at_most g d) && not (is_some e)) d None))

  abbrev joined_end : ℕ → Option ℕ
  joined_end g = or_else (cond (not (at_most g e)) e None) (cond (not (at_most g d)) d None)

  upper : nat_lt th fh ≡ true → h ≡ fh
  upper up = grind (arith, nat_tests)

  apart : nat_lt th fh ≡ true → (th == fh) ≡ false
  apart up = grind (arith, nat_tests)

  lower : nat_lt th fh ≡ false → h ≡ th
  lower up = grind (arith, nat_tests)

  itself : (n : ℕ) → (n == n) ≡ true
  itself n = grind (arith, nat_tests)

  least : nat_lt 0 base ≡ not (base == 0)
  least = grind (arith, nat_tests)

  later : (x : Option ℕ) → ((y : ℕ) → x ≡ Some y → th < y) → at_most th x ≡ false
  later None a = refl
  later (Some y) a = let l = a y refl in under y l
    where
      under : (y : ℕ) → th < y → nat_le y th ≡ false
      under y l = grind (arith, nat_tests)

  pub row_joined : ((x y : RowValue) → r ≡ Some x → s ≡ Some y → x ≡ y) → changed_row (nat_lt th fh) h ≡ joined_row h
  row_joined same = cases (nat_lt th fh) refl
    where
      whole : ((base == 0) && (fh == fh)) ≡ (base == 0)
      whole = ap (λ b. (base == 0) && b) (itself fh) ∙ and_true (base == 0)

      risen : nat_lt th fh ≡ true → changed_row true fh ≡ joined_row fh
      risen up =
          (λ i. or_else (cond (not (true && gone)) r None) (or_else (cond true (cond (gone && stays_by (nat_lt fh born) (at_most fh e) (base == 0) s) r None) None) (cond ((nat_lt fh born || whole i) && not (is_some r)) s None)))
          ∙ row_case (nat_lt fh born) (base == 0) (at_most fh e) r s same
          ∙ (λ i. or_else (cond (nat_lt fh born || ((sym (apart up) i || sym least i) && not (at_most fh e))) r None) (cond (nat_lt fh born || sym whole i) s None))

      mine : (x : Option RowValue) (k : Bool) → or_else x (cond (k && not (is_some x)) s None) ≡ or_else x (cond k s None)
      mine None k = ap (λ b. cond b s None) (and_true k)
      mine (Some x) k = refl

      kept : at_most th e ≡ false → changed_row false th ≡ joined_row th
      kept after =
          mine r (nat_lt th born || ((base == 0) && (fh == th)))
          ∙ (λ i. or_else (cond (sym (or_true (nat_lt th born)) i) r None) (cond (nat_lt th born || ((base == 0) && (fh == th))) s None))
          ∙ (λ i. or_else (cond (nat_lt th born || ((sym (itself th) i || nat_lt 0 base) && not (sym after i))) r None) (cond (nat_lt th born || ((base == 0) && (fh == th))) s None))

      cases : (up : Bool) → nat_lt th fh ≡ up → changed_row up h ≡ joined_row h
      cases true up = ap (changed_row true) (upper up) ∙ risen up ∙ ap joined_row (sym (upper up))
      cases false up = ap (changed_row false) (lower up) ∙ kept (later e above) ∙ ap joined_row (sym (lower up))

  pub end_joined : ((x y : ℕ) → e ≡ Some x → d ≡ Some y → x ≡ y) → changed_end (nat_lt th fh) h ≡ joined_end h
  end_joined same = cases (nat_lt th fh) refl
    where
      mine : (x : Option ℕ) (k : Bool) → or_else x (cond (k && not (is_some x)) d None) ≡ or_else x (cond k d None)
      mine None k = ap (λ b. cond b d None) (and_true k)
      mine (Some x) k = refl

      kept : at_most th e ≡ false → changed_end false th ≡ joined_end th
      kept after = mine e (not (at_most th d)) ∙ (λ i. or_else (cond (not (sym after i)) e None) (cond (not (at_most th d)) d None))

      cases : (up : Bool) → nat_lt th fh ≡ up → changed_end up h ≡ joined_end h
      cases true up =
          ap (changed_end true) (upper up)
          ∙ end_case fh gone e d (λ t. ap (λ b. b || (is_some r && not (stays_by (nat_lt fh born) (at_most fh e) (base == 0) s))) t) same
          ∙ ap joined_end (sym (upper up))
      cases false up = ap (changed_end false) (lower up) ∙ kept (later e above) ∙ ap joined_end (sym (lower up))

-- ---- what is read of what is known

pub known_by : {Y : Type 0} (g : VersionValue → Option Y) (r : Option RowValue) (d : Option ℕ) → g (record { row = None; died = None }) ≡ None → option_and_then g (if_known (record { row = r; died = d })) ≡ g (record { row = r; died = d })
known_by g None None n = sym n
known_by g None (Some d) n = refl
known_by g (Some r) d n = refl

pub pass_by : (p : VersionValue → Bool) (r : Option RowValue) (d : Option ℕ) → p (record { row = None; died = None }) ≡ false → passes p (if_known (record { row = r; died = d })) ≡ p (record { row = r; died = d })
pass_by p None None n = sym n
pass_by p None (Some d) n = refl
pass_by p (Some r) d n = refl

nothing : {X : Type 0} (b : Bool) → ◌≡◌ {A = Option X} (cond b None None) None
nothing true = refl
nothing false = refl

-- ---- all versions

module _ (t : Content) (f : FragmentValue) (lawful : IsLawful t) (agree : contents_conflict t f.content ≡ false) (change : Change) where
  agree_rows : maps_conflict same_row t.rows f.content.rows ≡ false
  agree_rows = (or_parts (maps_conflict same_row t.rows f.content.rows) (maps_conflict (λ a b. a == b) t.ends f.content.ends) agree).0

  agree_ends : maps_conflict (λ a b. a == b) t.ends f.content.ends ≡ false
  agree_ends = (or_parts (maps_conflict same_row t.rows f.content.rows) (maps_conflict (λ a b. a == b) t.ends f.content.ends) agree).1

  module _ (q : VersionKey) where
    row_same : (x y : RowValue) → finmap.get t.rows q ≡ Some x → finmap.get f.content.rows q ≡ Some y → x ≡ y
    row_same = agreed same_row same_value (finmap.get t.rows q) (finmap.get f.content.rows q) (alike_at same_row t.rows f.content.rows agree_rows q)

    end_same : (x y : ℕ) → finmap.get t.ends q ≡ Some x → finmap.get f.content.ends q ≡ Some y → x ≡ y
    end_same = agreed (λ a b. a == b) eqb-true (finmap.get t.ends q) (finmap.get f.content.ends q) (alike_at (λ a b. a == b) t.ends f.content.ends agree_ends q)

    is_gone : gone_at t f q ≡ (nat_lt t.horizon f.content.horizon && gone_by (nat_lt f.content.horizon q.born) (at_most f.content.horizon (finmap.get t.ends q)) (f.base == 0) (finmap.get t.rows q) (finmap.get f.content.rows q))
    is_gone = ap (λ b. nat_lt t.horizon f.content.horizon && b) (pass_by (goes (f.base == 0) f.content.horizon (is_sent t f) q) (finmap.get t.rows q) (finmap.get t.ends q) refl)

    row_comes_back : row_back_at t f q ≡ cond (nat_lt t.horizon f.content.horizon) (row_back (f.base == 0) f.content.horizon (is_sent t f) q (record { row = finmap.get t.rows q; died = finmap.get t.ends q })) None
    row_comes_back = ap (λ x. cond (nat_lt t.horizon f.content.horizon) x None) (known_by (row_back (f.base == 0) f.content.horizon (is_sent t f) q) (finmap.get t.rows q) (finmap.get t.ends q) (nothing (goes (f.base == 0) f.content.horizon (is_sent t f) q (record { row = None; died = None }) && stays (f.base == 0) f.content.horizon (is_sent t f) q (record { row = None; died = None }))))

    end_comes_back : end_back_at t f q ≡ cond (nat_lt t.horizon f.content.horizon) (end_back (f.base == 0) f.content.horizon (is_sent t f) q (record { row = finmap.get t.rows q; died = finmap.get t.ends q })) None
    end_comes_back = ap (λ x. cond (nat_lt t.horizon f.content.horizon) x None) (known_by (end_back (f.base == 0) f.content.horizon (is_sent t f) q) (finmap.get t.rows q) (finmap.get t.ends q) (nothing (goes (f.base == 0) f.content.horizon (is_sent t f) q (record { row = None; died = None }) && true)))

    row_arrives : row_comes_at t f q ≡ cond ((nat_lt (max t.horizon f.content.horizon) q.born || old_come t f) && not (is_some (finmap.get t.rows q))) (finmap.get f.content.rows q) None
    row_arrives =
        known_by (row_comes (facts_of_content t) (old_come t f) (max t.horizon f.content.horizon) q) (finmap.get f.content.rows q) (finmap.get f.content.ends q) (nothing ((nat_lt (max t.horizon f.content.horizon) q.born || old_come t f) && not (is_some (row_of (known_in t q)))))
        ∙ ap (λ o. cond ((nat_lt (max t.horizon f.content.horizon) q.born || old_come t f) && not (is_some o)) (finmap.get f.content.rows q) None) (known_row (facts_of_content t) q)

    end_arrives : end_comes_at t f q ≡ cond (not (at_most (max t.horizon f.content.horizon) (finmap.get f.content.ends q)) && not (is_some (finmap.get t.ends q))) (finmap.get f.content.ends q) None
    end_arrives =
        known_by (end_comes (facts_of_content t) (old_come t f) (max t.horizon f.content.horizon) q) (finmap.get f.content.rows q) (finmap.get f.content.ends q) (nothing (true && not (is_some (died_of (known_in t q)))))
        ∙ ap (λ o. cond (not (at_most (max t.horizon f.content.horizon) (finmap.get f.content.ends q)) && not (is_some o)) (finmap.get f.content.ends q) None) (known_end (facts_of_content t) q)

  -- the change of each version makes the joined content
  pub change_joins : change.horizon ≡ max t.horizon f.content.horizon
      → ((q : VersionKey) → is_among change.drops.items q ≡ gone_at t f q)
      → ((q : VersionKey) → find version_key_cmp q change.rows.items ≡ or_else (row_back_at t f q) (row_comes_at t f q))
      → ((q : VersionKey) → find version_key_cmp q change.ends.items ≡ or_else (end_back_at t f q) (end_comes_at t f q))
      → content_after_change t change f.content.streams ≡ content_after_join t f
  change_joins horizon drops rows ends = λ i. record {
    log = t.log;
    horizon = horizon i;
    rows = finmap.same_map version_key_total version_key_same (content_after_change t change f.content.streams).rows (content_after_join t f).rows row i;
    ends = finmap.same_map version_key_total version_key_same (content_after_change t change f.content.streams).ends (content_after_join t f).ends end i;
    streams = all_together t.streams f.content.streams;
  }
    where
      listed : {X : Type 0} (m : finmap.FinMap version_key_cmp X) (es : List (VersionKey × X)) (q : VersionKey) (gone : Bool) (x : Option X) → is_among change.drops.items q ≡ gone → find version_key_cmp q es ≡ x
          → finmap.get (union (finmap.retain_keys m (λ v. not (is_among change.drops.items v))) (finmap.from_entries es)) q ≡ or_else (cond (not gone) (finmap.get m q) None) x
      listed m es q goes x is found =
          get-union version_key_total version_key_same (finmap.retain_keys m (λ v. not (is_among change.drops.items v))) (finmap.from_entries es) q
          ∙ (λ i. or_else ((get-retain version_key_total version_key_same m (λ v. not (is_among change.drops.items v)) q ∙ ap (λ b. cond (not b) (finmap.get m q) None) is) i) ((finmap.get-from_entries version_key_total es q ∙ found) i))

      row : (q : VersionKey) → finmap.get (content_after_change t change f.content.streams).rows q ≡ finmap.get (content_after_join t f).rows q
      row q =
          listed t.rows change.rows.items q _ _ (drops q ∙ is_gone q) (rows q ∙ (λ i. or_else (row_comes_back q i) (row_arrives q i)))
          ∙ row_joined t.horizon f.content.horizon f.base q.born (finmap.get t.rows q) (finmap.get f.content.rows q) (finmap.get t.ends q) (finmap.get f.content.ends q) (λ x e. lawful.end_above q x e) (row_same q)
          ∙ sym (get-union version_key_total version_key_same _ _ q ∙ (λ i. or_else (get-retain version_key_total version_key_same t.rows (λ v. nat_lt (max t.horizon f.content.horizon) v.born || (((t.horizon == (max t.horizon f.content.horizon)) || nat_lt 0 f.base) && not (ended_by t.ends (max t.horizon f.content.horizon) v))) q i) (get-retain version_key_total version_key_same f.content.rows (λ v. nat_lt (max t.horizon f.content.horizon) v.born || ((f.base == 0) && (f.content.horizon == (max t.horizon f.content.horizon)))) q i)))

      end : (q : VersionKey) → finmap.get (content_after_change t change f.content.streams).ends q ≡ finmap.get (content_after_join t f).ends q
      end q =
          listed t.ends change.ends.items q _ _ (drops q ∙ is_gone q) (ends q ∙ (λ i. or_else (end_comes_back q i) (end_arrives q i)))
          ∙ end_joined t.horizon f.content.horizon f.base q.born (finmap.get t.rows q) (finmap.get f.content.rows q) (finmap.get t.ends q) (finmap.get f.content.ends q) (λ x e. lawful.end_above q x e) (end_same q)
          ∙ sym (get-union version_key_total version_key_same _ _ q ∙ (λ i. or_else (get-without_ended t.ends (max t.horizon f.content.horizon) t.ends q i) (get-without_ended f.content.ends (max t.horizon f.content.horizon) f.content.ends q i)))
