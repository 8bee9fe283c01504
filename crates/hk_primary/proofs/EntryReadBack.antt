-- A transaction is read back from its entry.
use Rattle.std.proofs.Common.{◌≡◌, refl, sym, ap, ◌∙◌, subst, ℕ, Bool, true, false, cond, Option, Some, None, List, [], ◌∷◌, ◌++◌, map, filter, filter_map, inl, inr, All, T, ◌&&◌, is_lt, Less, is_some, true≢false}
use Rattle.std.proofs.lemmas.List.Elements.{All-head, All-tail}
use Rattle.std.specs.Ordering.{eq_by_cmp}
use Rattle.std.specs.FinMap as finmap
use Rattle.std.specs.FinMap.Entries.{find, is_sorted, same_entries, below_all}
use Rattle.hk_types.specs.Values.{RowValue, ConfigValue}
use Rattle.hk_types.specs.declared.version_key.VersionKey.{VersionKey}
use Rattle.hk_model.specs.Replica.Maps.{or_else}
use Rattle.hk_model.specs.History.Rows.{RowKey, row_key_cmp, version_of}
use Rattle.hk_model.specs.History.Histories.{Transaction, Tables, written_key, put_row, tables_of, last_put, entry_of, KeysRise, RemovesPresent, Follows}
use Rattle.hk_model.specs.declared.write_op.WriteOp.{WriteOp}
use Rattle.hk_model.specs.declared.write_op.WriteOp.TheVariants.{Put, Remove}
use Rattle.hk_model.proofs.Replica.Maps.{row_key_total, row_key_same, find-append}
use Rattle.hk_model.proofs.Replica.Members.{In, In-map, map-In, In-find, find-In}
use Rattle.hk_model.proofs.History.Writes.{All_In, In_filter, filter_In, In_puts, puts_In, is_written, key_tied}
use Rattle.hk_model.proofs.Replica.Visible.{find_sorted}
use Rattle.hk_primary.specs.Log.{put_of, removal_of, by_key, writes_of, transaction_of}
use Rattle.hk_facts.proofs.StoredTrees.{and_T}

-- a write with its key
abbrev keyed : WriteOp → RowKey × WriteOp
keyed w = (written_key w, w)

below_keyed : (k : RowKey) (ws : List WriteOp) → All (λ l. row_key_cmp k l ≡ Less) (map written_key ws) → T (below_all row_key_cmp k (map keyed ws))
below_keyed k [] all = tt
below_keyed k (w ∷ ws) all =
    and_T _ _ (subst (λ r. T (is_lt r)) (sym (All-head (λ l. row_key_cmp k l ≡ Less) (written_key w) (map written_key ws) all)) tt)
    (below_keyed k ws (All-tail (λ l. row_key_cmp k l ≡ Less) (written_key w) (map written_key ws) all))

sorted_keyed : (ws : List WriteOp) → KeysRise (map written_key ws) → T (is_sorted row_key_cmp (map keyed ws))
sorted_keyed [] rise = tt
sorted_keyed (w ∷ ws) rise = and_T _ _ (below_keyed (written_key w) ws rise.0) (sorted_keyed ws rise.1)

values_keyed : (ws : List WriteOp) → map (λ (e : RowKey × WriteOp). e.1) (map keyed ws) ≡ ws
values_keyed [] = refl
values_keyed (w ∷ ws) = ap (λ more. w ∷ more) (values_keyed ws)

-- writes in rising order are the values of their map
pub values_by_key : (ws : List WriteOp) → KeysRise (map written_key ws) → finmap.values (by_key ws) ≡ ws
values_by_key ws rise =
    ap (map (λ (e : RowKey × WriteOp). e.1)) (same_entries row_key_cmp row_key_total row_key_same (finmap.entries (by_key ws)) (map keyed ws) (finmap.entries_sorted (by_key ws)) (sorted_keyed ws rise)
    (λ q. sym (finmap.get-entries (by_key ws) q) ∙ finmap.get-from_entries row_key_total (map keyed ws) q))
    ∙ values_keyed ws

find_none : (k : RowKey) (es : List (RowKey × WriteOp)) → ((w : WriteOp) → In (k, w) es → ⊥) → find row_key_cmp k es ≡ None
find_none k es none = by (find row_key_cmp k es) refl
  where
    by : (o : Option WriteOp) → find row_key_cmp k es ≡ o → o ≡ None
    by None e = refl
    by (Some w) e = absurd (none w (In-find row_key_cmp row_key_total row_key_same k w es e))

map_append : (f : WriteOp → RowKey × WriteOp) (xs ys : List WriteOp) → map f (xs ++ ys) ≡ map f xs ++ map f ys
map_append f [] ys = refl
map_append f (x ∷ xs) ys = ap (λ more. f x ∷ more) (map_append f xs ys)

module _ (config : ConfigValue) (h : List Transaction) (ws : List WriteOp) (rise : KeysRise (map written_key ws)) (removes : All (RemovesPresent (tables_of h)) ws) where
  abbrev puts : List WriteOp
  puts = map put_of (filter_map put_row ws)

  abbrev there : RowKey → Bool
  there k = finmap.contains_key (tables_of h) k

  abbrev removals : List WriteOp
  removals = map removal_of (map (λ k. version_of k (last_put h k)) (filter there (map written_key ws)))

  keyed_In : (k : RowKey) (w : WriteOp) (xs : List WriteOp) → In (k, w) (map keyed xs) → In w xs × (k ≡ written_key w)
  keyed_In k w xs i =
      let p = In-map keyed (k, w) xs i in
      let same : w ≡ p.0 = ap (λ (e : RowKey × WriteOp). e.1) p.2 in
      (subst (λ (x : WriteOp). In x xs) (sym same) p.1, ap (λ (e : RowKey × WriteOp). e.0) p.2 ∙ ap written_key (sym same))

  In_keyed : (k : RowKey) (w : WriteOp) (xs : List WriteOp) → In w xs → k ≡ written_key w → In (k, w) (map keyed xs)
  In_keyed k w xs i e = subst (λ (l : RowKey). In (l, w) (map keyed xs)) (sym e) (map-In keyed w xs i)

  -- each key stands once
  one_write : (k : RowKey) (v w : WriteOp) → In v ws → In w ws → k ≡ written_key v → k ≡ written_key w → v ≡ w
  one_write k v w i j e f =
      let a = find_sorted row_key_cmp row_key_total k v (map keyed ws) (sorted_keyed ws rise) (In_keyed k v ws i e) in
      let b = find_sorted row_key_cmp row_key_total k w (map keyed ws) (sorted_keyed ws rise) (In_keyed k w ws j f) in
      let s : Some v ≡ Some w = sym a ∙ b in
      cc

  -- a put is a put of the transaction
  put_In : (w : WriteOp) → In w puts → In w ws × ((table : ℕ) × (key : ℕ) × (row : RowValue) × (w ≡ Put table key row))
  put_In w i =
      let p = In-map put_of w (filter_map put_row ws) i in
      (subst (λ (x : WriteOp). In x ws) (sym p.2) (In_puts (record { table = p.0.0; key = p.0.1 }) p.0.2 ws p.1), (p.0.0, p.0.1, p.0.2, p.2))

  removal_In : (k : RowKey) (w : WriteOp) → In w removals → k ≡ written_key w → In k (map written_key ws) × (w ≡ Remove k.table k.key)
  removal_In k w i e =
      let p = In-map removal_of w (map (λ k. version_of k (last_put h k)) (filter there (map written_key ws))) i in
      let q = In-map (λ k. version_of k (last_put h k)) p.0 (filter there (map written_key ws)) p.1 in
      let f = In_filter there q.0 (map written_key ws) q.1 in
      let same : w ≡ Remove q.0.table q.0.key = p.2 ∙ ap removal_of q.2 in
      let key : k ≡ q.0 = e ∙ ap written_key same in
      (subst (λ (l : RowKey). In l (map written_key ws)) (sym key) f.0, same ∙ ap (λ (l : RowKey). Remove l.table l.key) (sym key))

  unwritten : (k : RowKey) → ((w : WriteOp) → In w ws → eq_by_cmp row_key_cmp k (written_key w) ≡ false) → (w : WriteOp) → In w ws → k ≡ written_key w → ⊥
  unwritten k none w i e = true≢false (sym (key_tied k (written_key w) e) ∙ none w i)

  no_put_of_removed : (k : RowKey) (table key : ℕ) → In (Remove table key) ws → k ≡ written_key (Remove table key) → (y : WriteOp) → In (k, y) (map keyed puts) → ⊥
  no_put_of_removed k table key i e y j =
      let p = keyed_In k y puts j in
      let q = put_In y p.0 in
      let s : Remove table key ≡ Put q.1.0 q.1.1 q.1.2 = one_write k (Remove table key) y i q.0 e p.1 ∙ q.1.3 in
      cc

  written : (k : RowKey) (w : WriteOp) → In w ws → k ≡ written_key w → or_else (find row_key_cmp k (map keyed puts)) (find row_key_cmp k (map keyed removals)) ≡ Some w
  written k (Put table key row) i e =
      ap (λ o. or_else o (find row_key_cmp k (map keyed removals)))
      (find-In row_key_cmp row_key_total row_key_same k (Put table key row) (map keyed puts)
      (λ y j. let p = keyed_In k y puts j in one_write k y (Put table key row) (put_In y p.0).0 i p.1 e)
      (In_keyed k (Put table key row) puts (map-In put_of (table, key, row) (filter_map put_row ws) (puts_In (record { table = table; key = key }) row ws i)) e))
  written k (Remove table key) i e =
      ap (λ o. or_else o (find row_key_cmp k (map keyed removals))) (find_none k (map keyed puts) (no_put_of_removed k table key i e))
      ∙ find-In row_key_cmp row_key_total row_key_same k (Remove table key) (map keyed removals)
      (λ y j. let p = keyed_In k y removals j in (removal_In k y p.0 p.1).1 ∙ ap (λ (l : RowKey). Remove l.table l.key) e)
      (In_keyed k (Remove table key) removals (removal_listed table key i) e)
    where
      removal_listed : (table key : ℕ) → In (Remove table key) ws → In (Remove table key) removals
      removal_listed table key i =
          let l : RowKey = record { table = table; key = key } in
          map-In removal_of (version_of l (last_put h l)) (map (λ k. version_of k (last_put h k)) (filter there (map written_key ws)))
          (map-In (λ k. version_of k (last_put h k)) l (filter there (map written_key ws)) (filter_In there l (map written_key ws) (map-In written_key (Remove table key) ws i) (All_In (RemovesPresent (tables_of h)) ws removes (Remove table key) i)))

  nothing : (k : RowKey) → ((w : WriteOp) → In w ws → eq_by_cmp row_key_cmp k (written_key w) ≡ false) → or_else (find row_key_cmp k (map keyed puts)) (find row_key_cmp k (map keyed removals)) ≡ None
  nothing k none =
      ap (λ o. or_else o (find row_key_cmp k (map keyed removals))) (find_none k (map keyed puts) (λ w i. let p = keyed_In k w puts i in unwritten k none w (put_In w p.0).0 p.1))
      ∙ find_none k (map keyed removals) (λ w i.
      let p = keyed_In k w removals i in
      let q = In-map written_key k ws (removal_In k w p.0 p.1).0 in
      unwritten k none q.0 q.1 q.2)

  same_find : (k : RowKey) → find row_key_cmp k (map keyed (puts ++ removals)) ≡ find row_key_cmp k (map keyed ws)
  same_find k =
      ap (find row_key_cmp k) (map_append keyed puts removals) ∙ find-append row_key_cmp k (map keyed puts) (map keyed removals)
      ∙ elim (is_written k ws) [
        | inl w ↦ written k w.0 w.1 w.2 ∙ sym (find_sorted row_key_cmp row_key_total k w.0 (map keyed ws) (sorted_keyed ws rise) (In_keyed k w.0 ws w.1 w.2))
        | inr none ↦ nothing k none ∙ sym (find_none k (map keyed ws) (λ w i. let p = keyed_In k w ws i in unwritten k none w p.0 p.1))
      ]

  pub writes_back : finmap.values (by_key (puts ++ removals)) ≡ ws
  writes_back =
      ap finmap.values (finmap.same_map row_key_total row_key_same (by_key (puts ++ removals)) (by_key ws) (λ k. finmap.get-from_entries row_key_total (map keyed (puts ++ removals)) k ∙ same_find k ∙ sym (finmap.get-from_entries row_key_total (map keyed ws) k)))
      ∙ values_by_key ws rise

pub read_back : (config : ConfigValue) (h : List Transaction) (t : Transaction) → Follows config h t → transaction_of (entry_of config h t) ≡ t
read_back config h t f = ap (λ ws. record { time = t.time; stream = t.stream; writes = ws }) (writes_back config h t.writes f.keys_rise f.removes_present)
