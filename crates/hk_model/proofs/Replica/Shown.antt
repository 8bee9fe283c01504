-- Which version of a row a content shows at a time: at most one, and its row is the visible one.
use Rattle.std.proofs.Common.{◌≡◌, refl, sym, ap, ◌∙◌, ℕ, Bool, true, false, cond, not, Option, Some, None, List, [], ◌∷◌, map, inl, inr, ◌&&◌, ◌<◌, ◌≤◌, arith, nat_le, le-leb, leb-true, eq-eqb, true≢false, lt-ltb}
use Rattle.std.proofs.lemmas.Bool.{and_parts, or_left, or_right, cases_lt}
use Rattle.std.specs.List.{list_any}
use Rattle.std.specs.FinMap as finmap
use Rattle.std.specs.FinMap.Entries.{find}
use Rattle.hk_model.proofs.Replica.Maps.{version_key_total, version_key_same, row_key_total, row_key_same, get-retain}
use Rattle.hk_model.proofs.Replica.Members.{In, In-map, map-In, In-find, find-In}
use Rattle.hk_model.proofs.Replica.Visible.{get_entry}
use Rattle.hk_types.specs.Values.{RowValue}
use Rattle.hk_types.specs.declared.version_key.VersionKey.{VersionKey}
use Rattle.hk_model.specs.History.Rows.{RowKey, version_key_cmp, row_key_cmp, row_key_of, version_of}
use Rattle.hk_model.specs.Replica.Content.{Content, ended_by}
use Rattle.hk_model.specs.Replica.Answers.{replaces, shows, visible}

pub any_In : {K : Type 0} (p : K → Bool) (k : K) (ks : List K) → In k ks → p k ≡ true → list_any p ks ≡ true
any_In p k [] i e = elim i [ ]
any_In p k (q ∷ ks) (inl s) e = or_left (p q) (list_any p ks) (ap p (sym s) ∙ e)
any_In p k (q ∷ ks) (inr i) e = or_right (p q) (list_any p ks) (any_In p k ks i e)

not_false : (b : Bool) → not b ≡ true → b ≡ false
not_false true e = sym e
not_false false e = refl

-- a key of a map stands among its keys
pub get-key : {X : Type 0} (m : finmap.FinMap version_key_cmp X) (v : VersionKey) (x : X) → finmap.get m v ≡ Some x → In v (finmap.keys m)
get-key m v x e =
    map-In (λ (z : VersionKey × _). z.0) (v, x) (finmap.entries m)
    (In-find version_key_cmp version_key_total version_key_same v x (finmap.entries m) (sym (finmap.get-entries m v) ∙ e))

-- what it means that a version shows
pub record Shows (c : Content) (t : ℕ) (v : VersionKey) : Type 0 where
  pub born : v.born ≤ t
  pub latest : list_any (replaces t v) (finmap.keys c.rows) ≡ false
  pub unended : ended_by c.ends t v ≡ false

pub shows_parts : (c : Content) (t : ℕ) (v : VersionKey) → shows c t v ≡ true → Shows c t v
shows_parts c t v e =
    let a = and_parts (nat_le v.born t && not (list_any (replaces t v) (finmap.keys c.rows))) (not (ended_by c.ends t v)) e in
    let b = and_parts (nat_le v.born t) (not (list_any (replaces t v) (finmap.keys c.rows))) a.0 in
    record { born = leb-true v.born t b.0; latest = not_false _ b.1; unended = not_false _ a.1 }

pub shows_from : (c : Content) (t : ℕ) (v : VersionKey) → Shows c t v → shows c t v ≡ true
shows_from c t v s = λ i. (le-leb v.born t s.born i && not (s.latest i)) && not (s.unended i)

-- a later version of the same row, born by t, replaces it
pub replaces_from : (t : ℕ) (v w : VersionKey) → row_key_of v ≡ row_key_of w → v.born < w.born → w.born ≤ t → replaces t v w ≡ true
replaces_from t v w same later born =
    λ i. (((eq-eqb v.table w.table (ap (λ (k : RowKey). k.table) same) i) && (eq-eqb v.key w.key (ap (λ (k : RowKey). k.key) same) i)) && (lt-ltb v.born w.born later i)) && (le-leb w.born t born i)

not_before : (c : Content) (t : ℕ) (v w : VersionKey) (s : RowValue) → Shows c t v → Shows c t w → finmap.get c.rows w ≡ Some s → row_key_of v ≡ row_key_of w → v.born < w.born → ⊥
not_before c t v w s a b here same later =
    true≢false (sym (any_In (replaces t v) w (finmap.keys c.rows) (get-key c.rows w s here) (replaces_from t v w same later b.born)) ∙ a.latest)

-- at most one version of a row shows
pub one_shows : (c : Content) (t : ℕ) (v w : VersionKey) (r s : RowValue) → Shows c t v → Shows c t w → finmap.get c.rows v ≡ Some r → finmap.get c.rows w ≡ Some s → row_key_of v ≡ row_key_of w → v ≡ w
one_shows c t v w r s a b x y same =
    elim (cases_lt v.born w.born) [
      | inl lt ↦ absurd (not_before c t v w s a b y same lt)
      | inr le ↦ elim (cases_lt w.born v.born) [
        | inl lt ↦ absurd (not_before c t w v r b a x (sym same) lt)
        | inr ge ↦ let born : v.born ≡ w.born = omega arith in λ i. version_of (same i) (born i)
      ]
    ]

shown_list : Content → ℕ → List (RowKey × RowValue)
shown_list c t = map (λ e. (row_key_of e.0, e.1)) (finmap.entries (finmap.retain_keys c.rows (shows c t)))

kept_when : {X : Type 0} (b : Bool) (x : Option X) (s : X) → cond b x None ≡ Some s → (b ≡ true) × (x ≡ Some s)
kept_when true x s e = (refl, e)
kept_when false x s e = absurd cc

-- what is listed as shown
pub record IsListed (c : Content) (t : ℕ) (k : RowKey) (r : RowValue) : Type 0 where
  pub version : VersionKey
  pub of_key : k ≡ row_key_of version
  pub row : finmap.get c.rows version ≡ Some r
  pub shown : shows c t version ≡ true

listed_is : (c : Content) (t : ℕ) (k : RowKey) (r : RowValue) → In (k, r) (shown_list c t) → IsListed c t k r
unfolding shown_list
listed_is c t k r i =
    let e = In-map (λ (e : VersionKey × RowValue). (row_key_of e.0, e.1)) (k, r) (finmap.entries (finmap.retain_keys c.rows (shows c t))) i in
    let got = get_entry version_key_cmp version_key_total (finmap.retain_keys c.rows (shows c t)) e.0.0 e.0.1 e.1 in
    let kept = kept_when (shows c t e.0.0) (finmap.get c.rows e.0.0) e.0.1 (sym (get-retain version_key_total version_key_same c.rows (shows c t) e.0.0) ∙ got) in
    record {
      version = e.0.0;
      of_key = ap (λ (z : RowKey × RowValue). z.0) e.2;
      row = kept.1 ∙ ap (λ (z : RowKey × RowValue). Some z.1) (sym e.2);
      shown = kept.0;
    }

is_listed : (c : Content) (t : ℕ) (v : VersionKey) (r : RowValue) → finmap.get c.rows v ≡ Some r → shows c t v ≡ true → In (row_key_of v, r) (shown_list c t)
unfolding shown_list
is_listed c t v r e s =
    map-In (λ (e : VersionKey × RowValue). (row_key_of e.0, e.1)) (v, r) (finmap.entries (finmap.retain_keys c.rows (shows c t)))
    (In-find version_key_cmp version_key_total version_key_same v r (finmap.entries (finmap.retain_keys c.rows (shows c t)))
    (sym (finmap.get-entries (finmap.retain_keys c.rows (shows c t)) v)
    ∙ get-retain version_key_total version_key_same c.rows (shows c t) v
    ∙ ap (λ b. cond b (finmap.get c.rows v) None) s ∙ e))

Some_is : (r s : RowValue) → Some r ≡ Some s → r ≡ s
Some_is r s e = cc

get_shown : (c : Content) (t : ℕ) (k : RowKey) → finmap.get (visible c t) k ≡ find row_key_cmp k (shown_list c t)
unfolding shown_list
get_shown c t k = finmap.get-from_entries row_key_total (map (λ e. (row_key_of e.0, e.1)) (finmap.entries (finmap.retain_keys c.rows (shows c t)))) k

-- the row of the version that shows is visible
pub visible_row : (c : Content) (t : ℕ) (v : VersionKey) (r : RowValue) → finmap.get c.rows v ≡ Some r → shows c t v ≡ true → finmap.get (visible c t) (row_key_of v) ≡ Some r
visible_row c t v r e s =
    get_shown c t (row_key_of v)
    ∙ find-In row_key_cmp row_key_total row_key_same (row_key_of v) r (shown_list c t) (λ q i.
    let l = listed_is c t (row_key_of v) q i in
    let same : v ≡ l.version = one_shows c t v l.version r q (shows_parts c t v s) (shows_parts c t l.version l.shown) e l.row l.of_key in
    Some_is q r (sym l.row ∙ ap (finmap.get c.rows) (sym same) ∙ e)) (is_listed c t v r e s)

-- a visible row is that of a version that shows
pub visible_version : (c : Content) (t : ℕ) (k : RowKey) (r : RowValue) → finmap.get (visible c t) k ≡ Some r → IsListed c t k r
visible_version c t k r e = listed_is c t k r (In-find row_key_cmp row_key_total row_key_same k r (shown_list c t) (sym (get_shown c t k) ∙ e))

-- no row is visible where no version shows
pub none_visible : (c : Content) (t : ℕ) (k : RowKey) → ((born : ℕ) (r : RowValue) → finmap.get c.rows (version_of k born) ≡ Some r → shows c t (version_of k born) ≡ false) → finmap.get (visible c t) k ≡ None
none_visible c t k none = by (finmap.get (visible c t) k) refl
  where
    by : (x : Option RowValue) → finmap.get (visible c t) k ≡ x → x ≡ None
    by None e = refl
    by (Some r) e =
        let l = visible_version c t k r e in
        let v : version_of k l.version.born ≡ l.version = λ i. version_of (l.of_key i) l.version.born in
        absurd (true≢false (sym l.shown ∙ ap (shows c t) (sym v) ∙ none l.version.born r (ap (finmap.get c.rows) v ∙ l.row)))
