-- What look-ups in the facts of stored chains answer.
use Rattle.std.proofs.Common.{◌≡◌, refl, sym, ap, ◌∙◌, ℕ, Bool, true, false, cond, ◌&&◌, T, Option, Some, None, List, [], ◌∷◌, nat_cmp, is_eq, Ordering, Less, Equal, Greater}
use Rattle.std.specs.Cmp.{Equal-is}
use Rattle.std.specs.Option.{option_and_then}
use Rattle.std.specs.List.{flat_map}
use Rattle.std.specs.Ordering.{eq_by_cmp, ordering_then}
use Rattle.std.specs.FinMap as finmap
use Rattle.std.specs.FinMap.{find, is_sorted}
use Rattle.std.specs.FinMap.Entries.{below_all}
use Rattle.hk_types.specs.Values.{RowValue}
use Rattle.hk_types.specs.declared.version_key.VersionKey.{VersionKey}
use Rattle.hk_log.specs.Versions.{VersionValue, is_known}
use Rattle.hk_model.specs.History.Rows.{RowKey, row_key_cmp, row_key_of, version_key_cmp, version_of}
use Rattle.hk_model.specs.Replica.Maps.{or_else}
use Rattle.hk_model.proofs.Replica.Maps.{row_key_same, version_key_total, find-append}
use Rattle.hk_model.proofs.Replica.Visible.{T_both, less}
use Rattle.hk_facts.specs.Facts.{row_of, died_of, if_known}
use Rattle.hk_facts.specs.Chains.{ChainValue}
use Rattle.hk_chains.specs.Facts.{FactsValue, ChainsValue, stored_version, entry_if, read_all, facts_of, known_at, AllKnown}

-- ---- equal version keys

unfoldable pub tied : VersionKey → VersionKey → Bool
tied q v = eq_by_cmp row_key_cmp (row_key_of q) (row_key_of v) && eq_by_cmp nat_cmp q.born v.born

both_ties : (a b : Ordering) → is_eq (ordering_then a b) ≡ (is_eq a && is_eq b)
both_ties Less b = refl
both_ties Equal b = refl
both_ties Greater b = refl

three_ties : (a b c : Ordering) → is_eq (ordering_then a (ordering_then b c)) ≡ (is_eq (ordering_then a b) && is_eq c)
three_ties Less b c = refl
three_ties Equal b c = both_ties b c
three_ties Greater b c = refl

pub key_tied : (q v : VersionKey) → eq_by_cmp version_key_cmp q v ≡ tied q v
unfolding tied
key_tied q v = three_ties (nat_cmp q.table v.table) (nat_cmp q.key v.key) (nat_cmp q.born v.born)

-- ---- lists of lists

pub or_none : {X : Type 0} (x : Option X) → or_else x None ≡ x
or_none None = refl
or_none (Some x) = refl

module _ {S K X Y : Type 0} (L : S → S → Ordering) (same : finmap.IsAntisymmetric L) (R : K → K → Ordering) (q : K) (sel : S) (g : S × X → List (K × Y)) (h : X → Option Y) (a : Bool)
    (each : (e : S × X) → find R q (g e) ≡ cond (a && eq_by_cmp L sel e.0) (h e.1) None) where
  none_above : (k : S) (es : List (S × X)) → eq_by_cmp L sel k ≡ true → T (below_all L k es) → find L sel es ≡ None
  none_above k [] e h = refl
  none_above k (f ∷ fs) e h = ap (λ b. cond b (Some f.1) (find L sel fs)) other ∙ none_above k fs e (T_both _ _ h).1
    where
      other : eq_by_cmp L sel f.0 ≡ false
      other = ap (λ s. eq_by_cmp L s f.0) (same sel k ((Equal-is (L sel k)).0 e)) ∙ ap is_eq (less (L k f.0) (T_both _ _ h).0)

  pub find_flat : (es : List (S × X)) → T (is_sorted L es) → find R q (flat_map g es) ≡ cond a (option_and_then h (find L sel es)) None
  find_flat [] s = nothing a
    where
      nothing : (b : Bool) → None ≡ cond {A = Option Y} b None None
      nothing true = refl
      nothing false = refl
  find_flat (e ∷ es) s =
      find-append R q (g e) (flat_map g es)
      ∙ (λ i. or_else (each e i) (find_flat es (T_both _ _ s).1 i))
      ∙ cases a (eq_by_cmp L sel e.0) (λ t. none_above e.0 es t (T_both _ _ s).0)
    where
      cases : (b c : Bool) → (c ≡ true → find L sel es ≡ None) → or_else (cond (b && c) (h e.1) None) (cond b (option_and_then h (find L sel es)) None) ≡ cond b (option_and_then h (cond c (Some e.1) (find L sel es))) None
      cases false c none = refl
      cases true false none = refl
      cases true true none = ap (λ x. or_else (h e.1) (option_and_then h x)) (none refl) ∙ or_none (h e.1)

-- ---- what is read of all versions

pub find_entry : {Y : Type 0} (q v : VersionKey) (o : Option Y) → find version_key_cmp q (entry_if v o) ≡ cond (eq_by_cmp version_key_cmp q v) o None
find_entry {Y} q v None = same (eq_by_cmp version_key_cmp q v)
  where
    same : (b : Bool) → None ≡ cond {A = Option Y} b None None
    same true = refl
    same false = refl
find_entry q v (Some y) = refl

module _ {Y : Type 0} (read : VersionValue → Option Y) (q : VersionKey) where
  in_chain : (k : RowKey) (c : ChainValue) → find version_key_cmp q (flat_map (λ v. entry_if (version_of k v.0) (read v.1)) (finmap.entries c))
      ≡ cond (eq_by_cmp row_key_cmp (row_key_of q) k) (option_and_then read (finmap.get c q.born)) None
  unfolding tied
  in_chain k c =
      find_flat nat_cmp finmap.nat_cmp-IsAntisymmetric version_key_cmp q q.born _ read (eq_by_cmp row_key_cmp (row_key_of q) k)
      (λ v. find_entry q (version_of k v.0) (read v.1) ∙ ap (λ b. cond b (read v.1) None) (key_tied q (version_of k v.0)))
      (finmap.entries c) (finmap.entries_sorted c)
      ∙ ap (λ x. cond (eq_by_cmp row_key_cmp (row_key_of q) k) (option_and_then read x) None) (sym (finmap.get-entries c q.born))

  joins : (g : ChainValue → Option VersionValue) (x : Option ChainValue) → option_and_then (λ c. option_and_then read (g c)) x ≡ option_and_then read (option_and_then g x)
  joins g None = refl
  joins g (Some c) = refl

  get_read : (chains : ChainsValue) → finmap.get (finmap.from_entries {R = version_key_cmp} (read_all read chains)) q ≡ option_and_then read (stored_version chains q)
  get_read chains =
      finmap.get-from_entries version_key_total (read_all read chains) q
      ∙ find_flat row_key_cmp row_key_same version_key_cmp q (row_key_of q) _ (λ c. option_and_then read (finmap.get c q.born)) true (λ k. in_chain k.0 k.1) (finmap.entries chains) (finmap.entries_sorted chains)
      ∙ ap (option_and_then (λ c. option_and_then read (finmap.get c q.born))) (sym (finmap.get-entries chains (row_key_of q)))
      ∙ joins (λ c. finmap.get c q.born) (finmap.get chains (row_key_of q))

pub get_row : (chains : ChainsValue) (q : VersionKey) → finmap.get (facts_of chains).rows q ≡ row_of (stored_version chains q)
get_row chains q = get_read (λ v. v.row) q chains ∙ is (stored_version chains q)
  where
    is : (x : Option VersionValue) → option_and_then (λ v. v.row) x ≡ row_of x
    is None = refl
    is (Some v) = refl

pub get_end : (chains : ChainsValue) (q : VersionKey) → finmap.get (facts_of chains).ends q ≡ died_of (stored_version chains q)
get_end chains q = get_read (λ v. v.died) q chains ∙ is (stored_version chains q)
  where
    is : (x : Option VersionValue) → option_and_then (λ v. v.died) x ≡ died_of x
    is None = refl
    is (Some v) = refl

-- ---- what is known of a version

known_seen : (chains : ChainsValue) (q : VersionKey) (x : Option VersionValue) → stored_version chains q ≡ x → known_at (facts_of chains) q ≡ if_known (record { row = row_of x; died = died_of x })
known_seen chains q x is = (λ i. if_known (record { row = get_row chains q i; died = get_end chains q i })) ∙ ap (λ x. if_known (record { row = row_of x; died = died_of x })) is

-- what is known is what is stored
pub known_stored : (chains : ChainsValue) → AllKnown chains → (q : VersionKey) → known_at (facts_of chains) q ≡ stored_version chains q
known_stored chains known q = known_seen chains q (stored_version chains q) refl ∙ each (stored_version chains q) (λ v e. known q v e)
  where
    each : (x : Option VersionValue) → ((v : VersionValue) → x ≡ Some v → is_known v ≡ true) → if_known (record { row = row_of x; died = died_of x }) ≡ x
    each None k = refl
    each (Some v) k = ap (λ b. cond b (Some v) None) (k v refl)

pub nothing_known : (chains : ChainsValue) (q : VersionKey) → stored_version chains q ≡ None → known_at (facts_of chains) q ≡ None
nothing_known chains q none = known_seen chains q None none

pub row_known : (w : VersionValue) → row_of (if_known w) ≡ w.row
row_known w = cases w.row w.died
  where
    cases : (r : Option RowValue) (d : Option ℕ) → row_of (if_known (record { row = r; died = d })) ≡ r
    cases None None = refl
    cases None (Some d) = refl
    cases (Some r) d = refl

pub died_known : (w : VersionValue) → died_of (if_known w) ≡ w.died
died_known w = cases w.row w.died
  where
    cases : (r : Option RowValue) (d : Option ℕ) → died_of (if_known (record { row = r; died = d })) ≡ d
    cases None None = refl
    cases None (Some d) = refl
    cases (Some r) d = refl

pub known_row : (f : FactsValue) (v : VersionKey) → row_of (known_at f v) ≡ finmap.get f.rows v
known_row f v = row_known (record { row = finmap.get f.rows v; died = finmap.get f.ends v })

pub known_end : (f : FactsValue) (v : VersionKey) → died_of (known_at f v) ≡ finmap.get f.ends v
known_end f v = died_known (record { row = finmap.get f.rows v; died = finmap.get f.ends v })
