-- The rows that chains have between two keys of a table are the visible rows there.
use Rattle.std.proofs.Common.{◌≡◌, refl, sym, ap, ◌∙◌, ℕ, ◌<◌, Bool, true, false, cond, ◌&&◌, ◌==◌, Option, Some, None, List, [], ◌∷◌, ◌++◌, map, filter, not, nat_le, nat_cmp, Ordering, Less, Equal, Greater, is_le, arith}
use Rattle.std.specs.Ordering.{is_lt, ordering_then}
use Rattle.std.proofs.lemmas.Bool.Decides.{nat_tests}
use Rattle.std.specs.BTreeMap.Range.{entries_between, range_contains}
use Rattle.std.specs.declared.ops.Bound.TheVariants.{Included}
use Rattle.std.specs.FinMap as finmap
use Rattle.hk_types.specs.Values.{RowValue}
use Rattle.hk_model.specs.History.Rows.{RowKey, row_key_cmp, version_of}
use Rattle.hk_model.specs.Replica.Answers.{visible, rows_where}
use Rattle.hk_facts.specs.Chains.{ChainValue, row_at}
use Rattle.hk_chains.specs.Facts.{ChainsValue, facts_of, AllKnown}
use Rattle.hk_chains.specs.Reads.{keyed_if, rows_at, with_facts}
use Rattle.hk_chains.proofs.StoredFacts.{known_stored}
use Rattle.hk_chains.proofs.CountedRows.{row_if, rows_of, same_rows}

-- the rows at t of the chains whose keys pass a test are those of the shown rows whose keys do
picked_rows : (t : ℕ) (inside wanted : RowKey → Bool) → ((k : RowKey) → inside k ≡ wanted k) → (es : List (RowKey × ChainValue))
    → rows_at t (filter (λ e. inside e.0) es) ≡ map (λ e. (e.0.key, e.1)) (filter (λ e. wanted e.0) (rows_of t es))
picked_rows t inside wanted same [] = refl
picked_rows t inside wanted same (e ∷ es) = by (picked_rows t inside wanted same es) (inside e.0) refl (row_at e.1 t) refl
  where
    rest : List (ℕ × RowValue)
    rest = rows_at t (filter (λ e. inside e.0) es)

    shown : List (RowKey × RowValue)
    shown = rows_of t es

    by : rest ≡ map (λ e. (e.0.key, e.1)) (filter (λ e. wanted e.0) shown) → (b : Bool) → inside e.0 ≡ b → (o : Option RowValue) → row_at e.1 t ≡ o
        → rows_at t (cond b (e ∷ filter (λ e. inside e.0) es) (filter (λ e. inside e.0) es)) ≡ map (λ e. (e.0.key, e.1)) (filter (λ e. wanted e.0) (row_if e.0 o ++ shown))
    by less false h None g = less
    by less false h (Some r) g = less ∙ ap (λ b. map {B = ℕ × RowValue} (λ e. (e.0.key, e.1)) (cond b ((e.0, r) ∷ filter (λ e. wanted e.0) shown) (filter (λ e. wanted e.0) shown))) (sym (sym (same e.0) ∙ h))
    by less true h None g = ap (λ o. keyed_if e.0.key o ++ rest) g ∙ less
    by less true h (Some r) g = ap (λ o. keyed_if e.0.key o ++ rest) g ∙ ap (λ (l : List (ℕ × RowValue)). (e.0.key, r) ∷ l) less ∙ ap (λ b. map {B = ℕ × RowValue} (λ e. (e.0.key, e.1)) (cond b ((e.0, r) ∷ filter (λ e. wanted e.0) shown) (filter (λ e. wanted e.0) shown))) (sym (sym (same e.0) ∙ h))

-- ---- how numbers compare

at_least : (a b : ℕ) → is_le (nat_cmp a b) ≡ nat_le a b
at_least a b = grind (arith, nat_tests)

at_most : (a b : ℕ) → not (is_lt (nat_cmp b a)) ≡ nat_le a b
at_most a b = grind (arith, nat_tests)

less_differs : (a b : ℕ) → nat_cmp a b ≡ Less → (b == a) ≡ false
less_differs a b h = grind (arith, nat_tests)

equal_same : (a b : ℕ) → nat_cmp a b ≡ Equal → (b == a) ≡ true
equal_same a b h = grind (arith, nat_tests)

greater_differs : (a b : ℕ) → nat_cmp a b ≡ Greater → (b == a) ≡ false
greater_differs a b h = grind (arith, nat_tests)

pub below : (a b : ℕ) → is_lt (nat_cmp a b) ≡ true → a < b
below a b h = grind (arith, nat_tests)

-- ---- the rows from a lowest to a highest key of a table

module _ (table low high : ℕ) where
  abbrev lowest : RowKey
  lowest = record { table = table; key = low }

  abbrev highest : RowKey
  highest = record { table = table; key = high }

  -- whether a row is of the table, with a key from low to high
  abbrev is_between : RowKey → Bool
  is_between k = (k.table == table) && nat_le low k.key && nat_le k.key high

  between : (k : RowKey) → range_contains row_key_cmp (Included lowest) (Included highest) k ≡ is_between k
  between k = by (nat_cmp table k.table) refl
    where
      by : (o : Ordering) → nat_cmp table k.table ≡ o → (is_le (ordering_then o (nat_cmp low k.key)) && not (is_lt (ordering_then o (nat_cmp high k.key)))) ≡ is_between k
      by Less h = sym (ap (λ b. b && nat_le low k.key && nat_le k.key high) (less_differs table k.table h))
      by Equal h = (λ i. at_least low k.key i && at_most k.key high i) ∙ sym (ap (λ b. b && nat_le low k.key && nat_le k.key high) (equal_same table k.table h))
      by Greater h = sym (ap (λ b. b && nat_le low k.key && nat_le k.key high) (greater_differs table k.table h))

  -- the visible rows there, where low is not above high
  pub shown_between : (m : ChainsValue) → AllKnown m → (t : ℕ)
      → rows_at t (entries_between row_key_cmp (Included lowest) (Included highest) (finmap.entries m))
      ≡ rows_where (λ k row. (k.table == table) && nat_le low k.key && nat_le k.key high) (visible (with_facts (facts_of m)) t)
  shown_between m known t =
      picked_rows t (range_contains row_key_cmp (Included lowest) (Included highest)) is_between between (finmap.entries m)
      ∙ ap (λ (rows : List (RowKey × RowValue)). map {B = ℕ × RowValue} (λ e. (e.0.key, e.1)) (filter (λ e. is_between e.0) rows)) (same_rows t (with_facts (facts_of m)) m (λ k born. known_stored m known (version_of k born)))

  -- none where it is
  pub none_between : high < low → (tables : finmap.FinMap row_key_cmp RowValue) → [] ≡ rows_where (λ k row. (k.table == table) && nat_le low k.key && nat_le k.key high) tables
  none_between above tables = ap (map {B = ℕ × RowValue} (λ e. (e.0.key, e.1))) (nothing (finmap.entries tables))
    where
      outside : (k : RowKey) → is_between k ≡ false
      outside k = grind (arith, nat_tests)

      nothing : (es : List (RowKey × RowValue)) → [] ≡ filter (λ e. is_between e.0) es
      nothing [] = refl
      nothing (e ∷ es) = nothing es ∙ sym (ap (λ b. cond b (e ∷ filter (λ e. is_between e.0) es) (filter (λ e. is_between e.0) es)) (outside e.0))
