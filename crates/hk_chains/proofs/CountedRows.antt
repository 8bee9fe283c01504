-- The chains of a table that have a row at a time are the visible rows of the table.
use Rattle.std.proofs.Common.{◌≡◌, refl, sym, ap, ◌∙◌, ℕ, suc, ◌≤◌, Bool, true, false, cond, ◌&&◌, ◌==◌, Option, Some, None, List, [], ◌∷◌, ◌++◌, filter, length, T, nat_cmp, eqb-true, eq-eqb, true≢false, Ordering, Less, Equal, Greater, is_le, is_gt, arith}
use Rattle.std.proofs.lemmas.Bool.Decides.{nat_tests}
use Rattle.std.proofs.lemmas.List.{length-map}
use Rattle.std.proofs.lemmas.List.Sums.{take_while-cons}
use Rattle.std.proofs.lemmas.Map.Keys.{sorted_head, sorted_tail}
use Rattle.std.specs.List.{AllByRecursion, flat_map, take_while}
use Rattle.std.specs.List.Sorted.{IsStrictlySortedBy}
use Rattle.std.specs.Map.{keys_of}
use Rattle.std.specs.Option.{option_and_then, is_some}
use Rattle.std.specs.Ordering.{eq_by_cmp, is_lt, ordering_then}
use Rattle.std.specs.Cmp.{nat_cmp_total, tied_itself}
use Rattle.std.specs.FinMap as finmap
use Rattle.std.specs.FinMap.Entries.{find, is_sorted, below_all, same_entries}
use Rattle.hk_types.specs.Values.{RowValue}
use Rattle.hk_model.specs.History.Rows.{RowKey, row_key_cmp, version_of}
use Rattle.hk_model.specs.Replica.Content.{Content}
use Rattle.hk_model.specs.Replica.Answers.{visible, rows_where}
use Rattle.hk_model.proofs.Replica.Maps.{row_key_total, row_key_same}
use Rattle.hk_model.proofs.Replica.Visible.{T_both}
use Rattle.hk_index.proofs.StoredKeys.{no_greater}
use Rattle.hk_facts.specs.Chains.{ChainValue, row_at}
use Rattle.hk_facts.proofs.StoredTrees.{and_T}
use Rattle.hk_chains.specs.Facts.{ChainsValue, stored_version, known_at, facts_of, AllKnown}
use Rattle.hk_chains.specs.Reads.{with_facts}
use Rattle.hk_chains.proofs.StoredFacts.{find_flat, known_stored}
use Rattle.hk_chains.proofs.ChainsAtTime.{facts_in, row_found, row_missed}

-- ---- the rows that chains have

-- a row with its key, where there is one
abbrev pub row_if : RowKey → Option RowValue → List (RowKey × RowValue)
row_if k None = []
row_if k (Some r) = (k, r) ∷ []

find_row : (q k : RowKey) (o : Option RowValue) → find row_key_cmp q (row_if k o) ≡ cond (eq_by_cmp row_key_cmp q k) o None
find_row q k None = elim (eq_by_cmp row_key_cmp q k) as (λ b. None ≡ cond {A = Option RowValue} b None None) [ true ↦ refl | false ↦ refl ]
find_row q k (Some r) = refl

module _ (t : ℕ) where
  -- the rows that chains have at t, with their keys
  abbrev pub rows_of : List (RowKey × ChainValue) → List (RowKey × RowValue)
  rows_of es = flat_map (λ e. row_if e.0 (row_at e.1 t)) es

  below_rows : (k : RowKey) (es : List (RowKey × ChainValue)) → T (below_all row_key_cmp k es) → T (below_all row_key_cmp k (rows_of es))
  below_rows k [] b = tt
  below_rows k (e ∷ es) b = let both = T_both (is_lt (row_key_cmp k e.0)) (below_all row_key_cmp k es) b in by both.0 (below_rows k es both.1) (row_at e.1 t)
    where
      by : T (is_lt (row_key_cmp k e.0)) → T (below_all row_key_cmp k (rows_of es)) → (o : Option RowValue) → T (below_all row_key_cmp k (row_if e.0 o ++ rows_of es))
      by first rest None = rest
      by first rest (Some r) = and_T _ _ first rest

  rows_sorted : (es : List (RowKey × ChainValue)) → T (is_sorted row_key_cmp es) → T (is_sorted row_key_cmp (rows_of es))
  rows_sorted [] s = tt
  rows_sorted (e ∷ es) s = let both = T_both (below_all row_key_cmp e.0 es) (is_sorted row_key_cmp es) s in by (below_rows e.0 es both.0) (rows_sorted es both.1) (row_at e.1 t)
    where
      by : T (below_all row_key_cmp e.0 (rows_of es)) → T (is_sorted row_key_cmp (rows_of es)) → (o : Option RowValue) → T (is_sorted row_key_cmp (row_if e.0 o ++ rows_of es))
      by first rest None = rest
      by first rest (Some r) = and_T _ _ first rest

  find_rows : (m : ChainsValue) (k : RowKey) → find row_key_cmp k (rows_of (finmap.entries m)) ≡ option_and_then (λ c. row_at c t) (finmap.get m k)
  find_rows m k =
      find_flat row_key_cmp row_key_same row_key_cmp k k _ (λ c. row_at c t) true (λ e. find_row k e.0 (row_at e.1 t)) (finmap.entries m) (finmap.entries_sorted m)
      ∙ ap (option_and_then (λ c. row_at c t)) (sym (finmap.get-entries m k))

  module _ (c : Content) (m : ChainsValue) (known : (k : RowKey) (born : ℕ) → known_at (facts_in c) (version_of k born) ≡ stored_version m (version_of k born)) where
    row_is : (k : RowKey) (x : Option ChainValue) → finmap.get m k ≡ x → option_and_then (λ d. row_at d t) x ≡ finmap.get (visible c t) k
    row_is k None none = row_missed c k t (λ born. known k born ∙ ap (option_and_then (λ d. finmap.get d born)) none)
    row_is k (Some d) has = row_found c k d t (row_at d t) (λ born. ap (option_and_then (λ d. finmap.get d born)) (sym has) ∙ sym (known k born)) refl

    pub same_rows : rows_of (finmap.entries m) ≡ finmap.entries (visible c t)
    same_rows =
        same_entries row_key_cmp row_key_total row_key_same (rows_of (finmap.entries m)) (finmap.entries (visible c t))
        (rows_sorted (finmap.entries m) (finmap.entries_sorted m)) (finmap.entries_sorted (visible c t))
        (λ k. find_rows m k ∙ row_is k (finmap.get m k) refl ∙ finmap.get-entries (visible c t) k)

    module _ (table : ℕ) where
      same_length : (es : List (RowKey × ChainValue)) → length (filter (λ e. (e.0.table == table) && is_some (row_at e.1 t)) es) ≡ length (filter (λ e. e.0.table == table) (rows_of es))
      same_length [] = refl
      same_length (e ∷ es) = by (same_length es) (e.0.table == table) refl (row_at e.1 t)
        where
          some : List (RowKey × ChainValue)
          some = filter (λ e. (e.0.table == table) && is_some (row_at e.1 t)) es

          rows : List (RowKey × RowValue)
          rows = filter (λ e. e.0.table == table) (rows_of es)

          by : length some ≡ length rows → (b : Bool) → (e.0.table == table) ≡ b → (o : Option RowValue) → length (cond (b && is_some o) (e ∷ some) some) ≡ length (filter (λ e. e.0.table == table) (row_if e.0 o ++ rows_of es))
          by less true h None = less
          by less false h None = less
          by less true h (Some r) = ap suc less ∙ ap (λ b. length (cond b ((e.0, r) ∷ rows) rows)) (sym h)
          by less false h (Some r) = less ∙ ap (λ b. length (cond b ((e.0, r) ∷ rows) rows)) (sym h)

      chains_counted : length (filter (λ e. (e.0.table == table) && is_some (row_at e.1 t)) (finmap.entries m)) ≡ length (rows_where (λ k row. k.table == table) (visible c t))
      chains_counted = same_length (finmap.entries m) ∙ ap (λ es. length (filter (λ (e : RowKey × RowValue). e.0.table == table) es)) same_rows ∙ sym (length-map (filter (λ (e : RowKey × RowValue). e.0.table == table) (finmap.entries (visible c t))) (λ e. (e.0.key, e.1)))

-- ---- the chains of a table

lead_le : (a b : ℕ) (o : Ordering) → is_le (ordering_then (nat_cmp a b) o) ≡ true → a ≤ b
lead_le a b o e =
    elim (nat_cmp a b) as (λ p. nat_cmp a b ≡ p → is_le (ordering_then p o) ≡ true → a ≤ b) [
      | Less ↦ λ p _. let f = ap is_gt p in no_greater a b f
      | Equal ↦ λ p _. let f = ap is_gt p in no_greater a b f
      | Greater ↦ λ p l. absurd (true≢false (sym l))
    ] refl e

module _ (table : ℕ) where
  -- whether a row is none before those of the table
  abbrev is_from : RowKey → Bool
  is_from k = is_le (row_key_cmp (record { table = table; key = 0 }) k)

  own_from : (k : RowKey) → (k.table == table) ≡ true → is_from k ≡ true
  own_from k own =
      ap (λ a. is_le (ordering_then (nat_cmp a k.table) (nat_cmp 0 k.key))) (sym (eqb-true k.table table own))
      ∙ ap (λ o. is_le (ordering_then o (nat_cmp 0 k.key))) (tied_itself nat_cmp_total k.table)
      ∙ least k.key
    where
      least : (n : ℕ) → is_le (nat_cmp 0 n) ≡ true
      least n = grind (arith, nat_tests)

  -- after a row of a later table comes none of this one
  none_later : {X : Type 0} (k : RowKey) → is_from k ≡ true → (k.table == table) ≡ false → (es : List (RowKey × X)) → AllByRecursion (λ l. row_key_cmp k l ≡ Less) (keys_of es) → filter (λ e. e.0.table == table) es ≡ []
  none_later k from other [] later = refl
  none_later k from other (e ∷ es) later = ap (λ b. cond b (e ∷ filter (λ e. e.0.table == table) es) (filter (λ e. e.0.table == table) es)) (elsewhere (e.0.table == table) refl) ∙ none_later k from other es later.1
    where
      elsewhere : (b : Bool) → (e.0.table == table) ≡ b → b ≡ false
      elsewhere false h = refl
      elsewhere true h =
          let a = lead_le table k.table (nat_cmp 0 k.key) from in
          let b = lead_le k.table e.0.table (nat_cmp k.key e.0.key) (ap is_le later.0) in
          let there : e.0.table ≡ table = eqb-true e.0.table table h in
          absurd (true≢false (sym (eq-eqb k.table table (omega arith)) ∙ other))

  -- of sorted entries those of the table come first from where it begins
  while_own : {X : Type 0} (es : List (RowKey × X)) → IsStrictlySortedBy row_key_cmp (keys_of es) → take_while (λ e. e.0.table == table) (filter (λ e. is_from e.0) es) ≡ filter (λ e. e.0.table == table) es
  while_own [] rising = refl
  while_own {X} (e ∷ es) rising = by (while_own es (sorted_tail row_key_cmp e.0 (keys_of es) rising)) (is_from e.0) refl (e.0.table == table) refl
    where
      rest : List (RowKey × X)
      rest = filter (λ e. is_from e.0) es

      own : List (RowKey × X)
      own = filter (λ e. e.0.table == table) es

      first : take_while (λ e. e.0.table == table) (e ∷ rest) ≡ cond (e.0.table == table) (e ∷ take_while (λ e. e.0.table == table) rest) []
      first = take_while-cons (λ e. e.0.table == table) e rest

      by : take_while (λ e. e.0.table == table) rest ≡ own → (f : Bool) → is_from e.0 ≡ f → (b : Bool) → (e.0.table == table) ≡ b → take_while (λ e. e.0.table == table) (cond f (e ∷ rest) rest) ≡ cond b (e ∷ own) own
      by same false f true h = absurd (true≢false (sym (own_from e.0 h) ∙ f))
      by same false f false h = same
      by same true f true h = first ∙ ap (λ b. cond b (e ∷ take_while (λ e. e.0.table == table) rest) []) h ∙ ap (λ (l : List (RowKey × X)). e ∷ l) same
      by same true f false h = first ∙ ap (λ b. cond b (e ∷ take_while (λ e. e.0.table == table) rest) []) h ∙ sym (none_later e.0 f h es (sorted_head row_key_cmp e.0 (keys_of es) rising))

-- a test that is made of two
filter_twice : {X : Type 0} (p q : X → Bool) (xs : List X) → filter q (filter p xs) ≡ filter (λ x. p x && q x) xs
filter_twice p q [] = refl
filter_twice p q (x ∷ xs) =
    elim (p x) as (λ b. filter q (cond b (x ∷ filter p xs) (filter p xs)) ≡ cond (b && q x) (x ∷ filter (λ x. p x && q x) xs) (filter (λ x. p x && q x) xs)) [
      | true ↦ ap (λ l. cond (q x) (x ∷ l) l) (filter_twice p q xs)
      | false ↦ filter_twice p q xs
    ]

-- a range with no end
pub from_start : (b : Bool) → (b && true) ≡ b
from_start true = refl
from_start false = refl

-- the keys of sorted entries rise
each_below : {X : Type 0} (k : RowKey) (es : List (RowKey × X)) → T (below_all row_key_cmp k es) → AllByRecursion (λ y. row_key_cmp k y ≡ Less) (keys_of es)
each_below k [] t = tt
each_below k (e ∷ es) t = let both = T_both (is_lt (row_key_cmp k e.0)) (below_all row_key_cmp k es) t in (less (row_key_cmp k e.0) both.0, each_below k es both.1)
  where
    less : (o : Ordering) → T (is_lt o) → o ≡ Less
    less Less t = refl
    less Equal t = absurd t
    less Greater t = absurd t

pub keys_rise : {X : Type 0} (es : List (RowKey × X)) → T (is_sorted row_key_cmp es) → IsStrictlySortedBy row_key_cmp (keys_of es)
unfolding IsStrictlySortedBy
keys_rise [] t = tt
keys_rise (e ∷ es) t = let both = T_both (below_all row_key_cmp e.0 es) (is_sorted row_key_cmp es) t in (each_below e.0 es both.0, keys_rise es both.1)

-- the rows of a table that stored chains have at t, counted from where the table begins
pub counted_from : (m : ChainsValue) → AllKnown m → (table t : ℕ)
    → length (filter (λ (e : RowKey × ChainValue). is_some (row_at e.1 t)) (take_while (λ (e : RowKey × ChainValue). e.0.table == table) (filter (λ (e : RowKey × ChainValue). is_from table e.0) (finmap.entries m))))
    ≡ length (rows_where (λ k row. k.table == table) (visible (with_facts (facts_of m)) t))
counted_from m known table t =
    ap (λ (es : List (RowKey × ChainValue)). length (filter (λ (e : RowKey × ChainValue). is_some (row_at e.1 t)) es)) (while_own table (finmap.entries m) (keys_rise (finmap.entries m) (finmap.entries_sorted m)))
    ∙ ap length (filter_twice (λ (e : RowKey × ChainValue). e.0.table == table) (λ (e : RowKey × ChainValue). is_some (row_at e.1 t)) (finmap.entries m))
    ∙ chains_counted t (with_facts (facts_of m)) m (λ k born. known_stored m known (version_of k born)) table
