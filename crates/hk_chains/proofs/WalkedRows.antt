-- The versions of the chains of some rows, one row after the other, are those that are known, in rising order.
use Rattle.std.proofs.Common.{◌≡◌, refl, sym, ap, ◌∙◌, ℕ, Bool, true, false, true≢false, cond, ◌&&◌, ◌||◌, ◌==◌, nat_le, inl, inr, T, Option, Some, None, List, [], ◌∷◌, ◌++◌, map, filter, All, nat_cmp, is_le, is_lt, is_eq, arith}
use Rattle.std.proofs.lemmas.List.Elements.{All-nil, All-cons}
use Rattle.std.specs.Option.{is_some, option_and_then}
use Rattle.std.specs.Ordering.{eq_by_cmp, ordering_then}
use Rattle.std.specs.Cmp.{Equal-is, tied_itself}
use Rattle.std.proofs.lemmas.Bool.{or_right}
use Rattle.std.proofs.lemmas.Bool.Decides.{nat_tests}
use Rattle.std.proofs.lemmas.List.Folds.{list_any-append}
use Rattle.std.specs.FinSet as set
use Rattle.std.specs.List.{AllByRecursion, take_while}
use Rattle.std.specs.List.Sorted.{IsStrictlySortedBy}
use Rattle.std.specs.FinMap as finmap
use Rattle.std.specs.FinMap.{find, is_sorted}
use Rattle.std.specs.FinMap.Entries.{below_all}
use Rattle.std.specs.declared.cmp.Ordering.{Ordering}
use Rattle.std.specs.declared.cmp.Ordering.TheVariants.{Less, Equal, Greater}
use Rattle.hk_types.specs.declared.version_key.VersionKey.{VersionKey}
use Rattle.hk_log.specs.Versions.{VersionValue}
use Rattle.hk_model.specs.History.Rows.{RowKey, row_key_cmp, row_key_of, version_key_cmp, version_of}
use Rattle.hk_model.proofs.Replica.Maps.{row_key_total, row_key_same, version_key_total, version_key_same}
use Rattle.hk_model.proofs.Replica.Members.{In}
use Rattle.hk_model.proofs.Replica.Visible.{T_both, less, find_sorted}
use Rattle.hk_facts.specs.Chains.{ChainValue}
use Rattle.hk_facts.proofs.StoredTrees.{and_T}
use Rattle.hk_chains.specs.Facts.{FactsValue, ChainsValue, known_at, facts_of, AllKnown}
use Rattle.hk_chains.specs.Drops.{is_among}
use Rattle.hk_chains.specs.Versions.{AreVersions, AreVersionsOf, versions_of_row, versions_of_rows}
use Rattle.hk_index.specs.Listed.{Lists, is_up_to, with_keys}
use Rattle.hk_index.proofs.StoredKeys.{Lists-from, from_up_to}
use Rattle.hk_chains.specs.Indexed.{has_fact, keys_of}
use Rattle.hk_chains.proofs.Indexed.{known_fact}
use Rattle.hk_chains.proofs.StoredFacts.{tied, key_tied, find_flat, known_stored}

abbrev Born : Type 0
Born = ℕ × VersionValue

abbrev Found : Type 0
Found = VersionKey × VersionValue

abbrev Row : Type 0
Row = RowKey × ChainValue

-- ---- the order of versions by their rows

grouped : (a b c : Ordering) → ordering_then a (ordering_then b c) ≡ ordering_then (ordering_then a b) c
grouped Less b c = refl
grouped Equal b c = refl
grouped Greater b c = refl

-- versions are in the order of their rows, and then of their births
by_row : (v q : VersionKey) → version_key_cmp v q ≡ ordering_then (row_key_cmp (row_key_of v) (row_key_of q)) (nat_cmp v.born q.born)
by_row v q = grouped (nat_cmp v.table q.table) (nat_cmp v.key q.key) (nat_cmp v.born q.born)

from_zero : (b : ℕ) → is_le (nat_cmp 0 b) ≡ true
from_zero b = grind (arith, nat_tests)

-- the least version of a row is below what the row is not above
least_of_row : (k : RowKey) (q : VersionKey) → is_le (row_key_cmp k (row_key_of q)) ≡ is_le (version_key_cmp (version_of k 0) q)
least_of_row k q = by (row_key_cmp k (row_key_of q)) ∙ ap is_le (sym (by_row (version_of k 0) q))
  where
    by : (o : Ordering) → is_le o ≡ is_le (ordering_then o (nat_cmp 0 q.born))
    by Less = refl
    by Equal = sym (from_zero q.born)
    by Greater = refl

-- ---- which versions are there

module _ (q : VersionKey) where
  find_in_row : (k : RowKey) (es : List Born) → find version_key_cmp q (versions_of_row k es) ≡ cond (eq_by_cmp row_key_cmp (row_key_of q) k) (find nat_cmp q.born es) None
  unfolding tied
  find_in_row k [] = nothing (eq_by_cmp row_key_cmp (row_key_of q) k)
    where
      nothing : (b : Bool) → None ≡ cond {A = Option VersionValue} b None None
      nothing true = refl
      nothing false = refl
  find_in_row k (e ∷ es) =
      (λ i. cond (key_tied q (version_of k e.0) i) (Some e.1) (find_in_row k es i))
      ∙ cases (eq_by_cmp row_key_cmp (row_key_of q) k) (eq_by_cmp nat_cmp q.born e.0)
    where
      cases : (a b : Bool) → cond (a && b) (Some e.1) (cond a (find nat_cmp q.born es) None) ≡ cond a (cond b (Some e.1) (find nat_cmp q.born es)) None
      cases true b = refl
      cases false b = refl

  pub find_in_rows : (rows : List Row) → T (is_sorted row_key_cmp rows) → find version_key_cmp q (versions_of_rows rows) ≡ option_and_then (λ (c : ChainValue). finmap.get c q.born) (find row_key_cmp (row_key_of q) rows)
  find_in_rows rows sorted =
      find_flat row_key_cmp row_key_same version_key_cmp q (row_key_of q) (λ r. versions_of_row r.0 (finmap.entries r.1)) (λ (c : ChainValue). finmap.get c q.born) true
      (λ r. find_in_row r.0 (finmap.entries r.1) ∙ ap (λ x. cond (eq_by_cmp row_key_cmp (row_key_of q) r.0) x None) (sym (finmap.get-entries r.1 q.born)))
      rows sorted

-- of the rows that a test keeps are found those that it keeps
find_kept : (p : RowKey → Bool) (q : RowKey) (rows : List Row) → find row_key_cmp q (filter (λ r. p r.0) rows) ≡ cond (p q) (find row_key_cmp q rows) None
find_kept p q [] = nothing (p q)
  where
    nothing : (b : Bool) → None ≡ cond {A = Option ChainValue} b None None
    nothing true = refl
    nothing false = refl
find_kept p q (r ∷ rows) = by (find_kept p q rows) (p r.0) refl (eq_by_cmp row_key_cmp q r.0) refl
  where
    same : eq_by_cmp row_key_cmp q r.0 ≡ true → q ≡ r.0
    same t = row_key_same q r.0 ((Equal-is (row_key_cmp q r.0)).0 t)

    gone : (b : Bool) (x : Option ChainValue) → b ≡ false → None ≡ cond b x None
    gone b x e = ap (λ t. cond t x None) (sym e)

    kept : (b : Bool) (x : Option ChainValue) → b ≡ true → x ≡ cond b x None
    kept b x e = ap (λ t. cond t x None) (sym e)

    by : find row_key_cmp q (filter (λ r. p r.0) rows) ≡ cond (p q) (find row_key_cmp q rows) None → (a : Bool) → p r.0 ≡ a → (b : Bool) → eq_by_cmp row_key_cmp q r.0 ≡ b
        → find row_key_cmp q (cond a (r ∷ filter (λ r. p r.0) rows) (filter (λ r. p r.0) rows)) ≡ cond (p q) (cond b (Some r.1) (find row_key_cmp q rows)) None
    by others true e true t = ap (λ b. cond b (Some r.1) (find row_key_cmp q (filter (λ r. p r.0) rows))) t ∙ kept (p q) (Some r.1) (ap p (same t) ∙ e)
    by others true e false t = ap (λ b. cond b (Some r.1) (find row_key_cmp q (filter (λ r. p r.0) rows))) t ∙ others
    by others false e true t = others ∙ sym (gone (p q) (find row_key_cmp q rows) (ap p (same t) ∙ e)) ∙ gone (p q) (Some r.1) (ap p (same t) ∙ e)
    by others false e false t = others

-- ---- in which order

below_append : (k : VersionKey) (xs ys : List Found) → T (below_all version_key_cmp k xs) → T (below_all version_key_cmp k ys) → T (below_all version_key_cmp k (xs ++ ys))
below_append k [] ys a b = b
below_append k (x ∷ xs) ys a b =
    let both = T_both (is_lt (version_key_cmp k x.0)) (below_all version_key_cmp k xs) a in
    and_T (is_lt (version_key_cmp k x.0)) (below_all version_key_cmp k (xs ++ ys)) both.0 (below_append k xs ys both.1 b)

is : (b : Bool) → b ≡ true → T b
is true e = tt
is false e = absurd (true≢false (sym e))

-- of one row those born first come first
in_row : (k : RowKey) (a b : ℕ) → T (is_lt (nat_cmp a b)) → T (is_lt (version_key_cmp (version_of k a) (version_of k b)))
in_row k a b t = is _ (ap is_lt (by_row (version_of k a) (version_of k b)) ∙ ap (λ o. is_lt (ordering_then o (nat_cmp a b))) (tied_itself row_key_total k) ∙ ap is_lt (less (nat_cmp a b) t))

-- of two rows those of the first
in_rows : (k l : RowKey) (a b : ℕ) → T (is_lt (row_key_cmp k l)) → T (is_lt (version_key_cmp (version_of k a) (version_of l b)))
in_rows k l a b t = is _ (ap is_lt (by_row (version_of k a) (version_of l b)) ∙ ap (λ o. is_lt (ordering_then o (nat_cmp a b))) (less (row_key_cmp k l) t))

row_below : (k : RowKey) (a : ℕ) (es : List Born) → T (below_all nat_cmp a es) → T (below_all version_key_cmp (version_of k a) (versions_of_row k es))
row_below k a [] t = tt
row_below k a (e ∷ es) t =
    let both = T_both (is_lt (nat_cmp a e.0)) (below_all nat_cmp a es) t in
    and_T (is_lt (version_key_cmp (version_of k a) (version_of k e.0))) (below_all version_key_cmp (version_of k a) (versions_of_row k es)) (in_row k a e.0 both.0) (row_below k a es both.1)

other_row_below : (k l : RowKey) (a : ℕ) → T (is_lt (row_key_cmp k l)) → (es : List Born) → T (below_all version_key_cmp (version_of k a) (versions_of_row l es))
other_row_below k l a t [] = tt
other_row_below k l a t (e ∷ es) = and_T (is_lt (version_key_cmp (version_of k a) (version_of l e.0))) (below_all version_key_cmp (version_of k a) (versions_of_row l es)) (in_rows k l a e.0 t) (other_row_below k l a t es)

rows_below : (k : RowKey) (a : ℕ) (rows : List Row) → T (below_all row_key_cmp k rows) → T (below_all version_key_cmp (version_of k a) (versions_of_rows rows))
rows_below k a [] t = tt
rows_below k a (r ∷ rows) t =
    let both = T_both (is_lt (row_key_cmp k r.0)) (below_all row_key_cmp k rows) t in
    below_append (version_of k a) (versions_of_row r.0 (finmap.entries r.1)) (versions_of_rows rows) (other_row_below k r.0 a both.0 (finmap.entries r.1)) (rows_below k a rows both.1)

row_then : (k : RowKey) (es : List Born) (rows : List Row) → T (is_sorted nat_cmp es) → T (below_all row_key_cmp k rows) → T (is_sorted version_key_cmp (versions_of_rows rows)) → T (is_sorted version_key_cmp (versions_of_row k es ++ versions_of_rows rows))
row_then k [] rows sorted below rest = rest
row_then k (e ∷ es) rows sorted below rest =
    let both = T_both (below_all nat_cmp e.0 es) (is_sorted nat_cmp es) sorted in
    and_T (below_all version_key_cmp (version_of k e.0) (versions_of_row k es ++ versions_of_rows rows)) (is_sorted version_key_cmp (versions_of_row k es ++ versions_of_rows rows))
    (below_append (version_of k e.0) (versions_of_row k es) (versions_of_rows rows) (row_below k e.0 es both.0) (rows_below k e.0 rows below))
    (row_then k es rows both.1 below rest)

pub rows_sorted : (rows : List Row) → T (is_sorted row_key_cmp rows) → T (is_sorted version_key_cmp (versions_of_rows rows))
rows_sorted [] sorted = tt
rows_sorted (r ∷ rows) sorted =
    let both = T_both (below_all row_key_cmp r.0 rows) (is_sorted row_key_cmp rows) sorted in
    row_then r.0 (finmap.entries r.1) rows (finmap.entries_sorted r.1) both.0 (rows_sorted rows both.1)

below_kept : (p : RowKey → Bool) (k : RowKey) (rows : List Row) → T (below_all row_key_cmp k rows) → T (below_all row_key_cmp k (filter (λ r. p r.0) rows))
below_kept p k [] t = tt
below_kept p k (r ∷ rows) t = by (below_kept p k rows both.1) (p r.0)
  where
    both : T (is_lt (row_key_cmp k r.0)) × T (below_all row_key_cmp k rows)
    both = T_both (is_lt (row_key_cmp k r.0)) (below_all row_key_cmp k rows) t

    by : T (below_all row_key_cmp k (filter (λ r. p r.0) rows)) → (b : Bool) → T (below_all row_key_cmp k (cond b (r ∷ filter (λ r. p r.0) rows) (filter (λ r. p r.0) rows)))
    by others true = and_T (is_lt (row_key_cmp k r.0)) (below_all row_key_cmp k (filter (λ r. p r.0) rows)) both.0 others
    by others false = others

kept_sorted : (p : RowKey → Bool) (rows : List Row) → T (is_sorted row_key_cmp rows) → T (is_sorted row_key_cmp (filter (λ r. p r.0) rows))
kept_sorted p [] t = tt
kept_sorted p (r ∷ rows) t = by (kept_sorted p rows both.1) (p r.0)
  where
    both : T (below_all row_key_cmp r.0 rows) × T (is_sorted row_key_cmp rows)
    both = T_both (below_all row_key_cmp r.0 rows) (is_sorted row_key_cmp rows) t

    by : T (is_sorted row_key_cmp (filter (λ r. p r.0) rows)) → (b : Bool) → T (is_sorted row_key_cmp (cond b (r ∷ filter (λ r. p r.0) rows) (filter (λ r. p r.0) rows)))
    by others true = and_T (below_all row_key_cmp r.0 (filter (λ r. p r.0) rows)) (is_sorted row_key_cmp (filter (λ r. p r.0) rows)) (below_kept p r.0 rows both.0) others
    by others false = others

-- ---- a list in which each version is found that is known

each_below : (k : VersionKey) (es : List Found) → T (below_all version_key_cmp k es) → AllByRecursion (λ y. version_key_cmp k y ≡ Less) (map (λ (e : Found). e.0) es)
each_below k [] t = tt
each_below k (e ∷ es) t = let both = T_both (is_lt (version_key_cmp k e.0)) (below_all version_key_cmp k es) t in (less (version_key_cmp k e.0) both.0, each_below k es both.1)

rises : (es : List Found) → T (is_sorted version_key_cmp es) → IsStrictlySortedBy version_key_cmp (map (λ (e : Found). e.0) es)
unfolding IsStrictlySortedBy
rises [] t = tt
rises (e ∷ es) t = let both = T_both (below_all version_key_cmp e.0 es) (is_sorted version_key_cmp es) t in (each_below e.0 es both.0, rises es both.1)

all_from : {P : Found → Type 0} (es : List Found) → ((f : Found) → In f es → P f) → All P es
all_from {P = P} [] h = All-nil P
all_from {P = P} (e ∷ es) h = All-cons P e es (h e (inl refl)) (all_from es (λ f i. h f (inr i)))

among : (v : VersionKey) (es : List Found) → is_some (find version_key_cmp v es) ≡ is_among (map (λ (e : Found). e.0) es) v
among v [] = refl
among v (e ∷ es) = by (eq_by_cmp version_key_cmp v e.0) (among v es)
  where
    by : (b : Bool) → is_some (find version_key_cmp v es) ≡ is_among (map (λ (e : Found). e.0) es) v → is_some (cond b (Some e.1) (find version_key_cmp v es)) ≡ (b || is_among (map (λ (e : Found). e.0) es) v)
    by true h = refl
    by false h = h

pub found_are : (f : FactsValue) (some : VersionKey → Bool) (es : List Found) → T (is_sorted version_key_cmp es) → ((q : VersionKey) → find version_key_cmp q es ≡ cond (some q) (known_at f q) None) → AreVersionsOf f some es
found_are f some es sorted finds = record {
  known = all_from es (λ e i. held (some e.0) (known_at f e.0) e.1 (sym (finds e.0) ∙ find_sorted version_key_cmp version_key_total e.0 e.1 es sorted i));
  all = λ v. either (some v) (known_at f v) ∙ ap is_some (sym (finds v)) ∙ among v es;
  rising = rises es sorted;
}
  where
    held : (b : Bool) (x : Option VersionValue) (v : VersionValue) → cond b x None ≡ Some v → x ≡ Some v
    held true x v e = e
    held false x v e = cc e

    either : (b : Bool) (x : Option VersionValue) → (b && is_some x) ≡ is_some (cond b x None)
    either true x = refl
    either false x = refl

-- the versions of the rows from one on
pub rows_are : (chains : ChainsValue) → AllKnown chains → (k : RowKey) (rows : List Row) → T (is_sorted row_key_cmp rows) → ((q : RowKey) → finmap.get chains q ≡ find row_key_cmp q rows)
    → AreVersionsOf (facts_of chains) (λ q. is_le (version_key_cmp (version_of k 0) q)) (versions_of_rows (filter (λ r. is_le (row_key_cmp k r.0)) rows))
rows_are chains known k rows sorted finds =
    found_are (facts_of chains) (λ q. is_le (version_key_cmp (version_of k 0) q)) (versions_of_rows (filter (λ r. is_le (row_key_cmp k r.0)) rows))
    (rows_sorted (filter (λ r. is_le (row_key_cmp k r.0)) rows) (kept_sorted (λ r. is_le (row_key_cmp k r)) rows sorted))
    (λ q.
    find_in_rows q (filter (λ r. is_le (row_key_cmp k r.0)) rows) (kept_sorted (λ r. is_le (row_key_cmp k r)) rows sorted)
    ∙ ap (option_and_then (λ (c : ChainValue). finmap.get c q.born)) (find_kept (λ r. is_le (row_key_cmp k r)) (row_key_of q) rows)
    ∙ in_bounds (is_le (row_key_cmp k (row_key_of q))) (λ (c : ChainValue). finmap.get c q.born) (find row_key_cmp (row_key_of q) rows)
    ∙ (λ i. cond (least_of_row k q i) (option_and_then (λ (c : ChainValue). finmap.get c q.born) (sym (finds (row_key_of q)) i)) None)
    ∙ ap (λ x. cond (is_le (version_key_cmp (version_of k 0) q)) x None) (sym (known_stored chains known q)))
  where
    in_bounds : (b : Bool) (g : ChainValue → Option VersionValue) (x : Option ChainValue) → option_and_then g (cond b x None) ≡ cond b (option_and_then g x) None
    in_bounds true g x = refl
    in_bounds false g x = refl

-- ---- the keys of a list of versions

pub keys_have : (f : FactsValue) (v : VersionKey) → set.contains (keys_of f) v ≡ has_fact f v
keys_have f v =
    set.contains-from_list version_key_total (finmap.keys f.rows ++ finmap.keys f.ends) v
    ∙ list_any-append (eq_by_cmp version_key_cmp v) (finmap.keys f.rows) (finmap.keys f.ends)
    ∙ (λ i. sym (finmap.contains_key-keys f.rows v) i || sym (finmap.contains_key-keys f.ends v) i)

pub all_listed : (f : FactsValue) (es : List Found) → AreVersions f es → Lists (map (λ (e : Found). e.0) es) (keys_of f)
all_listed f es are = record {
  same = set.same_set version_key_total version_key_same (set.from_list (map (λ (e : Found). e.0) es)) (keys_of f) (λ v. set.contains-from_list version_key_total (map (λ (e : Found). e.0) es) v ∙ sym (are.all v) ∙ known_fact f v ∙ sym (keys_have f v));
  rising = are.rising;
}

filter_whole : (p : VersionKey → Bool) (ks : List VersionKey) → ((v : VersionKey) → is_among ks v ≡ true → p v ≡ true) → filter p ks ≡ ks
filter_whole p [] all = refl
filter_whole p (k ∷ ks) all =
    ap (λ b. cond b (k ∷ filter p ks) (filter p ks)) (all k (ap (λ o. is_eq o || is_among ks k) (tied_itself version_key_total k)))
    ∙ ap (λ l. k ∷ l) (filter_whole p ks (λ v a. all v (or_right (eq_by_cmp version_key_cmp v k) (is_among ks v) a)))

pub listed_up_to : (f : FactsValue) (table low high : ℕ) (es : List Found) (items : List VersionKey)
    → AreVersionsOf f (λ q. is_le (version_key_cmp (record { table = table; key = low; born = 0 }) q)) es → items ≡ take_while (is_up_to table high) (map (λ (e : Found). e.0) es) → Lists items (with_keys (keys_of f) table low high)
listed_up_to f table low high es items are all = record {
  same = listed.same ∙ set.same_set version_key_total version_key_same (with_keys (set.from_list ks) table low high) (with_keys (keys_of f) table low high) (λ q. kept listed_keys q ∙ alike q ∙ sym (kept (keys_of f) q));
  rising = listed.rising;
}
  where
    ks : List VersionKey
    ks = map (λ (e : Found). e.0) es

    from : VersionKey → Bool
    from q = is_le (version_key_cmp (record { table = table; key = low; born = 0 }) q)

    between : VersionKey → Bool
    between v = (v.table == table) && (nat_le low v.key && nat_le v.key high)

    both : (a b : Bool) → (a && b) ≡ true → a ≡ true
    both true b e = refl
    both false b e = e

    listed : Lists items (with_keys (set.from_list ks) table low high)
    listed = Lists-from ks table low high items are.rising (all ∙ ap (take_while (is_up_to table high)) (sym (filter_whole from ks (λ v a. both (from v) (is_some (known_at f v)) (are.all v ∙ a)))))

    kept : (s : set.FinSet version_key_cmp) (q : VersionKey) → set.contains (with_keys s table low high) q ≡ (set.contains s q && between q)
    kept s q = set.contains-retain s between q (λ x t. ap between (sym (version_key_same q x t)))

    regroup : (a k u : Bool) → ((a && k) && (a && u)) ≡ (k && (a && u))
    regroup true k u = refl
    regroup false true u = refl
    regroup false false u = refl

    listed_keys : set.FinSet version_key_cmp
    listed_keys = set.from_list ks

    alike : (q : VersionKey) → (set.contains listed_keys q && between q) ≡ (set.contains (keys_of f) q && between q)
    alike q =
        (λ i. (set.contains-from_list version_key_total ks q ∙ sym (are.all q) ∙ ap (λ b. from q && b) (known_fact f q)) i && sym (from_up_to table low high q) i)
        ∙ regroup (from q) (has_fact f q) (is_up_to table high q)
        ∙ (λ i. sym (keys_have f q) i && from_up_to table low high q i)
