-- What the latest versions of rows tell of a history.
use Rattle.std.proofs.Common.{◌≡◌, refl, sym, ap, ◌∙◌, subst, ℕ, zero, suc, ◌<◌, ◌≤◌, arith, Bool, true, false, cond, Option, Some, None, List, [], ◌∷◌, inl, inr, is_some, true≢false, ◌||◌}
use Rattle.std.specs.List.{list_any}
use Rattle.std.specs.Ordering.{eq_by_cmp}
use Rattle.std.specs.FinMap as finmap
use Rattle.hk_types.specs.Values.{RowValue, ConfigValue}
use Rattle.hk_types.specs.declared.version_key.VersionKey.{VersionKey}
use Rattle.hk_log.specs.Items.{EntryValue}
use Rattle.hk_log.specs.declared.item.Item.{Item}
use Rattle.hk_log.specs.declared.item.Item.TheVariants.{Commit}
use Rattle.hk_model.specs.History.Rows.{RowKey, row_key_cmp, row_key_of, version_of}
use Rattle.hk_model.specs.History.Facts.{entry_rows, entry_ends, rows_of, ends_of}
use Rattle.hk_model.specs.History.Histories.{Transaction, written_key, tables_of, last, last_put, entries_of, entry_of, tables_after_writes, RemovesPresent}
use Rattle.hk_model.specs.History.Commits.{last_written}
use Rattle.hk_model.specs.declared.write_op.WriteOp.{WriteOp}
use Rattle.hk_model.specs.declared.write_op.WriteOp.TheVariants.{Put, Remove}
use Rattle.hk_model.proofs.Replica.Members.{In, In-map}
use Rattle.hk_model.proofs.History.Writes.{All_In, put_at, puts, puts-true, put-puts, is_written, key_tied, tied_key, get-unwritten, get-all_written, unwritten-unput}
use Rattle.hk_model.proofs.History.Histories.{AreCommits, put_entry, entry_end, put_last, unput_last, last_put_last, entry_time, end_after, row_put, is_valid_row, table_unended}
use Rattle.hk_model.proofs.History.Formed.{put_time}
use Rattle.hk_model.proofs.History.Logs.{IsPart, fact_row, row_fact, fact_end, end_fact, row_born, row_found, end_found, find_row, find_end}
use Rattle.hk_model.proofs.History.Honest.{commits_log}
use Rattle.hk_store.specs.Facts.{FactsValue}
use Rattle.hk_primary.specs.Looks.{IsLatest, put_time_of_row}

-- ---- when a row was last written

-- whether one of these writes is of this row
abbrev writes_at : RowKey → List WriteOp → Bool
writes_at k ws = list_any (λ w. eq_by_cmp row_key_cmp k (written_key w)) ws

any_written : (k : RowKey) (w : WriteOp) (ws : List WriteOp) → In w ws → k ≡ written_key w → writes_at k ws ≡ true
any_written k w [] i e = elim i [ ]
any_written k w (x ∷ ws) (inl s) e = ap (λ b. b || writes_at k ws) (key_tied k (written_key x) (e ∙ ap written_key s))
any_written k w (x ∷ ws) (inr i) e = ap (λ b. eq_by_cmp row_key_cmp k (written_key x) || b) (any_written k w ws i e) ∙ or_true (eq_by_cmp row_key_cmp k (written_key x))
  where
    or_true : (b : Bool) → (b || true) ≡ true
    or_true true = refl
    or_true false = refl

none_written : (k : RowKey) (ws : List WriteOp) → ((w : WriteOp) → In w ws → eq_by_cmp row_key_cmp k (written_key w) ≡ false) → writes_at k ws ≡ false
none_written k [] none = refl
none_written k (w ∷ ws) none = (λ i. none w (inl refl) i || none_written k ws (λ x j. none x (inr j)) i)

written_now : (t : Transaction) (earlier : List Transaction) (k : RowKey) → writes_at k t.writes ≡ true → last_written (t ∷ earlier) k ≡ t.time
written_now t earlier k e = ap (λ b. cond b t.time (last_written earlier k)) e

written_before : (t : Transaction) (earlier : List Transaction) (k : RowKey) → writes_at k t.writes ≡ false → last_written (t ∷ earlier) k ≡ last_written earlier k
written_before t earlier k e = ap (λ b. cond b t.time (last_written earlier k)) e

-- a row that a transaction removes was there
removed_there : (config : ConfigValue) (t : Transaction) (earlier : List Transaction) → AreCommits config (t ∷ earlier) → (k : RowKey) (table key : ℕ) → In (Remove table key) t.writes → k ≡ written_key (Remove table key) → finmap.contains_key (tables_of earlier) k ≡ true
removed_there config t earlier is k table key i e = ap (finmap.contains_key (tables_of earlier)) e ∙ All_In (RemovesPresent (tables_of earlier)) t.writes is.0.removes_present (Remove table key) i

-- a row that was never put was never written
pub never_written : (config : ConfigValue) (h : List Transaction) → AreCommits config h → (k : RowKey) → last_put h k ≡ 0 → last_written h k ≡ 0
never_written config [] is k e = refl
never_written config (t ∷ earlier) is k e = by (never_written config earlier is.1 k) (puts t.writes k) refl
  where
    removed : (w : WriteOp) → In w t.writes → k ≡ written_key w → puts t.writes k ≡ false → last_put earlier k ≡ 0 → ⊥
    removed (Put table key row) i s n z = true≢false (sym (ap (puts t.writes) s ∙ put-puts t.writes (record { table = table; key = key }) row i) ∙ n)
    removed (Remove table key) i s n z = let p = put_time config earlier is.1 k (removed_there config t earlier is k table key i s) in omega arith

    by : (last_put earlier k ≡ 0 → last_written earlier k ≡ 0) → (b : Bool) → puts t.writes k ≡ b → last_written (t ∷ earlier) k ≡ 0
    by rest true p = let now = put_last earlier t k p in let later = is.0.later in absurd (omega arith)
    by rest false p =
        let before : last_put earlier k ≡ 0 = sym (unput_last earlier t k p) ∙ e in
        elim (is_written k t.writes) [
          | inl w ↦ absurd (removed w.0 w.1 w.2 p before)
          | inr none ↦ written_before t earlier k (none_written k t.writes none) ∙ rest before
        ]

-- a row that is there was last written where it was put
pub there_written : (config : ConfigValue) (h : List Transaction) → AreCommits config h → (k : RowKey) → finmap.contains_key (tables_of h) k ≡ true → last_written h k ≡ last_put h k
there_written config [] is k e = refl
there_written config (t ∷ earlier) is k e =
    elim (is_written k t.writes) [
      | inl w ↦ wrote w.0 w.1 w.2
      | inr none ↦
          written_before t earlier k (none_written k t.writes none)
          ∙ there_written config earlier is.1 k (sym (ap is_some (get-unwritten t.writes (tables_of earlier) k none)) ∙ e)
          ∙ sym (unput_last earlier t k (unwritten-unput t.writes k none))
    ]
  where
    wrote : (w : WriteOp) → In w t.writes → k ≡ written_key w → last_written (t ∷ earlier) k ≡ last_put (t ∷ earlier) k
    wrote (Put table key row) i s =
        written_now t earlier k (any_written k (Put table key row) t.writes i s)
        ∙ sym (put_last earlier t k (ap (puts t.writes) s ∙ put-puts t.writes (record { table = table; key = key }) row i))
    wrote (Remove table key) i s =
        let gone = ap (λ l. is_some (finmap.get (tables_after_writes (tables_of earlier) t.writes) l)) s ∙ ap is_some (get-all_written t.writes (tables_of earlier) is.0.keys_rise (Remove table key) i) in
        absurd (true≢false (sym e ∙ gone))

-- a row whose last version ended was last written there
pub ended_written : (config : ConfigValue) (h : List Transaction) → AreCommits config h → (k : RowKey) (e : EntryValue) (d : ℕ) → In e (entries_of config h) → In (version_of k (last_put h k), d) (entry_ends e) → last_written h k ≡ d
ended_written config [] is k e d i j = elim i [ ]
ended_written config (t ∷ earlier) is k e d (inl s) j =
    let p = entry_end config earlier t (version_of k (last_put (t ∷ earlier) k)) d (subst (λ (f : EntryValue). In (version_of k (last_put (t ∷ earlier) k), d) (entry_ends f)) s j) in
    let w = In-map written_key k t.writes p.0 in
    written_now t earlier k (any_written k w.0 t.writes w.1 w.2) ∙ sym p.3
ended_written config (t ∷ earlier) is k e d (inr i) j = by (ended_written config earlier is.1 k e d i) (puts t.writes k) refl
  where
    there_Some : (x : Option RowValue) → is_some x ≡ true → (r : RowValue) × (x ≡ Some r)
    there_Some None n = absurd (true≢false (sym n))
    there_Some (Some r) n = (r, refl)

    removed : (w : WriteOp) → In w t.writes → k ≡ written_key w → puts t.writes k ≡ false → ⊥
    removed (Put table key row) m s n = true≢false (sym (ap (puts t.writes) s ∙ put-puts t.writes (record { table = table; key = key }) row m) ∙ n)
    removed (Remove table key) m s n =
        let row = there_Some (finmap.get (tables_of earlier) k) (removed_there config t earlier is k table key m s) in
        table_unended config earlier is.1 (version_of k (last_put (t ∷ earlier) k)) row.0 row.1 (unput_last earlier t k n) e d i j

    by : (In (version_of k (last_put earlier k), d) (entry_ends e) → last_written earlier k ≡ d) → (b : Bool) → puts t.writes k ≡ b → last_written (t ∷ earlier) k ≡ d
    by rest true p =
        let now = put_last earlier t k p in
        let after = end_after config earlier is.1 e i (version_of k (last_put (t ∷ earlier) k)) d j in
        let later = is.0.later in
        absurd (omega arith)
    by rest false p =
        elim (is_written k t.writes) [
          | inl w ↦ absurd (removed w.0 w.1 w.2 p)
          | inr none ↦
              written_before t earlier k (none_written k t.writes none)
              ∙ rest (subst (λ (b : ℕ). In (version_of k b, d) (entry_ends e)) (unput_last earlier t k p) j)
        ]

-- the last put of a row has an entry
pub put_has_row : (config : ConfigValue) (h : List Transaction) → AreCommits config h → (k : RowKey) → 0 < last_put h k → (e : EntryValue) × (r : RowValue) × In e (entries_of config h) × In (version_of k (last_put h k), r) (entry_rows e)
put_has_row config [] is k l = absurd (omega arith)
put_has_row config (t ∷ earlier) is k l = by (put_has_row config earlier is.1 k) (puts t.writes k) refl
  where
    by : (0 < last_put earlier k → (e : EntryValue) × (r : RowValue) × In e (entries_of config earlier) × In (version_of k (last_put earlier k), r) (entry_rows e)) → (b : Bool) → puts t.writes k ≡ b → (e : EntryValue) × (r : RowValue) × In e (entries_of config (t ∷ earlier)) × In (version_of k (last_put (t ∷ earlier) k), r) (entry_rows e)
    by before_put true p =
        let q = puts-true t.writes k p in
        (entry_of config earlier t, q.0, inl refl, subst (λ (b : ℕ). In (version_of k b, q.0) (entry_rows (entry_of config earlier t))) (sym (put_last earlier t k p)) (put_entry config earlier t k q.0 q.1))
    by before_put false p =
        let before = unput_last earlier t k p in
        let rest = before_put (subst (λ (n : ℕ). 0 < n) before l) in
        (rest.0, rest.1, inr rest.2, subst (λ (b : ℕ). In (version_of k b, rest.1) (entry_rows rest.0)) (sym before) rest.3)

-- ---- what the latest version tells

-- the time of the last write that the latest version tells
abbrev pub written_by : Option (ℕ × Option ℕ) → ℕ
written_by None = 0
written_by (Some v) = elim v.1 as (λ _. ℕ) [ None ↦ v.0 | Some d ↦ d ]

-- the time of the put of the row that the latest version tells
abbrev pub put_by : Option (ℕ × Option ℕ) → Option ℕ
put_by None = None
put_by (Some v) = elim v.1 as (λ _. Option ℕ) [ None ↦ Some v.0 | Some d ↦ None ]

not_from : (b : Bool) → (b ≡ true → ⊥) → b ≡ false
not_from true f = absurd (f refl)
not_from false f = refl

there_get : (x : Option RowValue) → is_some x ≡ true → (r : RowValue) × (x ≡ Some r)
there_get None e = absurd (true≢false (sym e))
there_get (Some r) e = (r, refl)

module _ (config : ConfigValue) (h : List Transaction) (is : AreCommits config h) (items : List Item) (part : IsPart (λ e. In e (entries_of config h)) items) (all : (e : EntryValue) → In e (entries_of config h) → In (Commit e) items) where
  row_in : (v : VersionKey) (r : RowValue) → finmap.get (rows_of items) v ≡ Some r → (e : EntryValue) × In e (entries_of config h) × In (v, r) (entry_rows e)
  row_in v r g = let f = fact_row v r items (row_found items v r g) in (f.0, part.entry f.0 f.1, f.2)

  row_get : (v : VersionKey) (r : RowValue) (e : EntryValue) → In e (entries_of config h) → In (v, r) (entry_rows e) → finmap.get (rows_of items) v ≡ Some r
  row_get v r e i j = find_row config (λ e. In e (entries_of config h)) (commits_log config h is) items part v r (row_fact v r e items (all e i) j)

  end_in : (v : VersionKey) (d : ℕ) → finmap.get (ends_of items) v ≡ Some d → (e : EntryValue) × In e (entries_of config h) × In (v, d) (entry_ends e)
  end_in v d g = let f = fact_end v d items (end_found items v d g) in (f.0, part.entry f.0 f.1, f.2)

  end_get : (v : VersionKey) (d : ℕ) (e : EntryValue) → In e (entries_of config h) → In (v, d) (entry_ends e) → finmap.get (ends_of items) v ≡ Some d
  end_get v d e i j = find_end config (λ e. In e (entries_of config h)) (commits_log config h is) items part v d (end_fact v d e items (all e i) j)

  stands_none : (k : RowKey) → finmap.contains_key (tables_of h) k ≡ false → put_time_of_row h k ≡ None
  stands_none k e = ap (λ b. cond b (Some (last_put h k)) None) e

  stands_some : (k : RowKey) → finmap.contains_key (tables_of h) k ≡ true → put_time_of_row h k ≡ Some (last_put h k)
  stands_some k e = ap (λ b. cond b (Some (last_put h k)) None) e

  module _ (f : FactsValue) (rows_are : f.rows ≡ rows_of items) (ends_are : f.ends ≡ ends_of items) (k : RowKey) where
    get_row : (b : ℕ) → finmap.get f.rows (version_of k b) ≡ finmap.get (rows_of items) (version_of k b)
    get_row b = ap (λ m. finmap.get m (version_of k b)) rows_are

    get_end : (b : ℕ) → finmap.get f.ends (version_of k b) ≡ finmap.get (ends_of items) (version_of k b)
    get_end b = ap (λ m. finmap.get m (version_of k b)) ends_are

    -- with no version the row was never put
    unput : IsLatest f (last h) k None → last_put h k ≡ 0
    unput none = by (last_put h k) refl
      where
        by : (n : ℕ) → last_put h k ≡ n → last_put h k ≡ 0
        by zero e = e
        by (suc n) e =
            let l : 0 < last_put h k = omega arith in
            let p = put_has_row config h is k l in
            let upto = last_put_last config h is k in
            absurd (none (last_put h k) p.1 (get_row (last_put h k) ∙ row_get (version_of k (last_put h k)) p.1 p.0 p.2 p.3) upto)

    -- the version that was born last is the one that was put last
    born_last : (v : ℕ × Option ℕ) → IsLatest f (last h) k (Some v) → v.0 ≡ last_put h k
    born_last v latest =
        let e = row_in (version_of k v.0) latest.0.0 (sym (get_row v.0) ∙ latest.0.1) in
        let born = row_born (version_of k v.0) latest.0.0 e.0 e.2 in
        let time = entry_time config h is e.0 e.1 in
        let most = row_put config h is e.0 e.1 (version_of k v.0) latest.0.0 e.2 in
        let l : 0 < last_put h k = omega arith in
        let p = put_has_row config h is k l in
        let upto = last_put_last config h is k in
        let least = latest.2 (last_put h k) p.1 (get_row (last_put h k) ∙ row_get (version_of k (last_put h k)) p.1 p.0 p.2 p.3) upto in
        omega arith

    not_there : last_put h k ≡ 0 → finmap.contains_key (tables_of h) k ≡ false
    not_there z = not_from _ (λ y. let l = put_time config h is k y in omega arith)

    open_there : (b : ℕ) (r : RowValue) → b ≡ last_put h k → finmap.get (rows_of items) (version_of k b) ≡ Some r → finmap.get (ends_of items) (version_of k b) ≡ None → finmap.contains_key (tables_of h) k ≡ true
    open_there b r last row none =
        let e = row_in (version_of k b) r row in
        elim (is_valid_row config h is e.0 e.1 (version_of k b) r e.2) [
          | inl now ↦ ap is_some now.0
          | inr ended ↦ let g : None ≡ Some ended.0 = sym none ∙ end_get (version_of k b) ended.0 ended.1 ended.2 ended.3 in absurd cc
        ]

    ended_gone : (b d : ℕ) → b ≡ last_put h k → finmap.get (ends_of items) (version_of k b) ≡ Some d → finmap.contains_key (tables_of h) k ≡ false
    ended_gone b d last end = not_from _ (λ y.
        let row = there_get (finmap.get (tables_of h) k) y in
        let e = end_in (version_of k b) d end in
        table_unended config h is (version_of k b) row.0 row.1 last e.0 d e.1 e.2)

    ended_last : (b d : ℕ) → b ≡ last_put h k → finmap.get (ends_of items) (version_of k b) ≡ Some d → last_written h k ≡ d
    ended_last b d last end =
        let e = end_in (version_of k b) d end in
        ended_written config h is k e.0 d e.1 (subst (λ (n : ℕ). In (version_of k n, d) (entry_ends e.0)) last e.2)

    pub written_is : (o : Option (ℕ × Option ℕ)) → IsLatest f (last h) k o → written_by o ≡ last_written h k
    written_is None latest = sym (never_written config h is k (unput latest))
    written_is (Some (b, None)) latest =
        let last = born_last (b, None) latest in
        last ∙ sym (there_written config h is k (open_there b latest.0.0 last (sym (get_row b) ∙ latest.0.1) (sym (get_end b) ∙ sym latest.1)))
    written_is (Some (b, Some d)) latest = sym (ended_last b d (born_last (b, Some d) latest) (sym (get_end b) ∙ sym latest.1))

    pub put_is : (o : Option (ℕ × Option ℕ)) → IsLatest f (last h) k o → put_by o ≡ put_time_of_row h k
    put_is None latest = sym (stands_none k (not_there (unput latest)))
    put_is (Some (b, None)) latest =
        let last = born_last (b, None) latest in
        ap Some last ∙ sym (stands_some k (open_there b latest.0.0 last (sym (get_row b) ∙ latest.0.1) (sym (get_end b) ∙ sym latest.1)))
    put_is (Some (b, Some d)) latest = sym (stands_none k (ended_gone b d (born_last (b, Some d) latest) (sym (get_end b) ∙ sym latest.1)))
