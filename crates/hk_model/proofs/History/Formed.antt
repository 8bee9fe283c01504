-- The items of a history are well formed.
use Rattle.std.proofs.Common.{◌≡◌, refl, sym, ap, ◌∙◌, subst, ℕ, suc, ◌+◌, ◌^◌, ◌<◌, ◌≤◌, Bool, true, false, cond, Option, Some, None, List, [], ◌∷◌, map, filter, filter_map, length, ◌⊎◌, inl, inr, ◌==◌, ◌&&◌, arith, nat_lt, nat_le, nat_cmp, is_some, count_by, lt-ltb, leb-true, Ordering, true≢false, All, IsTrue}
use Rattle.std.specs.declared.cmp.Ordering.TheVariants.{Less, Equal, Greater}
use Rattle.std.proofs.lemmas.Bool.{and_from, or_left, or_right, cases_Bool}
use Rattle.std.proofs.lemmas.Bool.Decides.{nat_tests}
use Rattle.std.proofs.lemmas.List.Elements.{All-head, All-tail}
use Rattle.std.specs.List.{list_all}
use Rattle.std.specs.Ordering.{ordering_then}
use Rattle.std.specs.FinMap as finmap
use Rattle.hk_types.specs.Values.{RowValue, ConfigValue}
use Rattle.hk_types.specs.declared.version_key.VersionKey.{VersionKey}
use Rattle.hk_log.specs.Items.{EntryValue, IsEntry, end_place, row_place, is_before, is_after, rise_after, was_born, counts_fit}
use Rattle.hk_log.specs.declared.item.Item.{Item}
use Rattle.hk_log.specs.declared.item.Item.TheVariants.{Commit, Closed}
use Rattle.hk_model.specs.History.Rows.{RowKey, row_key_cmp, version_of}
use Rattle.hk_model.specs.Replica.Lawful.{IsItem}
use Rattle.hk_model.specs.declared.write_op.WriteOp.{WriteOp}
use Rattle.hk_model.specs.declared.write_op.WriteOp.TheVariants.{Put, Remove}
use Rattle.hk_model.specs.History.Histories.{Transaction, History, Tables, IsHistory, MayClose, commits, written_key, put_row, tables_of, last, last_put, entries_in, entry_of, entries_of, KeysRise, RemovesPresent, Follows, IsItemOf}
use Rattle.hk_model.proofs.Replica.Members.{In}
use Rattle.hk_model.proofs.History.Logs.{row_born}
use Rattle.hk_model.proofs.History.Histories.{AreCommits, are_commits, entry_time, last_put_last, table_row}
use Rattle.hk_model.proofs.History.Honest.{is_closed, closed_step, count_step, Contains_In}

-- ---- places rise

abbrev place : RowKey → ℕ × ℕ
place k = (k.table, k.key)

less_first : (a b : Ordering) → ordering_then a b ≡ Less → (a ≡ Less) ⊎ ((a ≡ Equal) × (b ≡ Less))
less_first Less b e = inl refl
less_first Equal b e = inr (refl, e)
less_first Greater b e = absurd cc

less_numbers : (x y : ℕ) → nat_cmp x y ≡ Less → nat_lt x y ≡ true
less_numbers x y e = grind (arith, nat_tests)

tied_numbers : (x y : ℕ) → nat_cmp x y ≡ Equal → (x == y) ≡ true
tied_numbers x y e = grind (arith, nat_tests)

before : (k l : RowKey) → row_key_cmp k l ≡ Less → is_before (place k) (place l) ≡ true
before k l e =
    elim (less_first (nat_cmp k.table l.table) (nat_cmp k.key l.key) e) [
      | inl t ↦ or_left _ _ (less_numbers k.table l.table t)
      | inr r ↦ or_right (nat_lt k.table l.table) _ (and_from _ _ (tied_numbers k.table l.table r.0) (less_numbers k.key l.key r.1))
    ]

-- each of these keys comes after the place before
abbrev AllAfter : Option (ℕ × ℕ) → List RowKey → Type 0
AllAfter p [] = Unit {0}
AllAfter p (k ∷ ks) = (is_after p (place k) ≡ true) × AllAfter p ks

after_head : (k : RowKey) (ks : List RowKey) → All (λ l. row_key_cmp k l ≡ Less) ks → AllAfter (Some (place k)) ks
after_head k [] all = tt
after_head k (l ∷ ks) all = (before k l (All-head (λ l. row_key_cmp k l ≡ Less) l ks all), after_head k ks (All-tail (λ l. row_key_cmp k l ≡ Less) l ks all))

after_none : (ks : List RowKey) → AllAfter None ks
after_none [] = tt
after_none (k ∷ ks) = (refl, after_none ks)

ends_places : (f : RowKey → ℕ) (there : RowKey → Bool) (p : Option (ℕ × ℕ)) (ks : List RowKey) → KeysRise ks → AllAfter p ks → rise_after p (map end_place (map (λ k. version_of k (f k)) (filter there ks))) ≡ true
ends_places f there p [] r a = refl
ends_places f there p (k ∷ ks) r a =
    elim (there k) as (λ b. rise_after p (map end_place (map (λ k. version_of k (f k)) (cond b (k ∷ filter there ks) (filter there ks)))) ≡ true) [
      | true ↦ and_from _ _ a.0 (ends_places f there (Some (place k)) ks r.1 (after_head k ks r.0))
      | false ↦ ends_places f there p ks r.1 a.1
    ]

rows_places : (p : Option (ℕ × ℕ)) (ws : List WriteOp) → KeysRise (map written_key ws) → AllAfter p (map written_key ws) → rise_after p (map row_place (filter_map put_row ws)) ≡ true
rows_places p [] r a = refl
rows_places p (Put t n row ∷ ws) r a = and_from _ _ a.0 (rows_places (Some (t, n)) ws r.1 (after_head (record { table = t; key = n }) (map written_key ws) r.0))
rows_places p (Remove t n ∷ ws) r a = rows_places p ws r.1 a.1

-- ---- counts

fewer_ends : (there : RowKey → Bool) (f : RowKey → VersionKey) (ws : List WriteOp) → length (map f (filter there (map written_key ws))) ≤ length ws
fewer_ends there f [] = omega arith
fewer_ends there f (w ∷ ws) =
    let rest = fewer_ends there f ws in
    elim (there (written_key w)) as (λ b. length (map f (cond b (written_key w ∷ filter there (map written_key ws)) (filter there (map written_key ws)))) ≤ suc (length ws)) [ true ↦ omega arith | false ↦ omega arith ]

fewer_rows : (ws : List WriteOp) → length (filter_map put_row ws) ≤ length ws
fewer_rows [] = omega arith
fewer_rows (Put t n row ∷ ws) = let rest = fewer_rows ws in omega arith
fewer_rows (Remove t n ∷ ws) = let rest = fewer_rows ws in omega arith

some_fact : (tables : Tables) (f : RowKey → VersionKey) (ws : List WriteOp) → 0 < length ws → All (RemovesPresent tables) ws → 0 < length (map f (filter (λ k. finmap.contains_key tables k) (map written_key ws))) + length (filter_map put_row ws)
some_fact tables f [] few all = few
some_fact tables f (Put t n row ∷ ws) few all = omega arith
some_fact tables f (Remove t n ∷ ws) few all =
    let there = All-head (RemovesPresent tables) (Remove t n) ws all in
    kept (finmap.contains_key tables (record { table = t; key = n })) there
  where
    kept : (b : Bool) → IsTrue b → 0 < length (map f (cond b (record { table = t; key = n } ∷ filter (λ k. finmap.contains_key tables k) (map written_key ws)) (filter (λ k. finmap.contains_key tables k) (map written_key ws)))) + length (filter_map put_row ws)
    kept true h = omega arith
    kept false h = absurd (true≢false (sym h))

-- ---- born times

pub put_time : (config : ConfigValue) (h : List Transaction) → AreCommits config h → (k : RowKey) → is_some (finmap.get (tables_of h) k) ≡ true → 0 < last_put h k
put_time config h is k there = by (finmap.get (tables_of h) k) refl there
  where
    by : (x : Option RowValue) → finmap.get (tables_of h) k ≡ x → is_some x ≡ true → 0 < last_put h k
    by None e s = absurd (true≢false (sym s))
    by (Some r) e s =
        let f = table_row config h is k r e in
        let b = row_born (version_of k (last_put h k)) r f.0 f.2 in
        let t = (entry_time config h is f.0 f.1).0 in
        omega arith

born_times : (time : ℕ) (f : RowKey → ℕ) (there : RowKey → Bool) (ks : List RowKey) → ((k : RowKey) → there k ≡ true → (0 < f k) × (f k < time)) → list_all (was_born time) (map (λ k. version_of k (f k)) (filter there ks)) ≡ true
born_times time f there [] within = refl
born_times time f there (k ∷ ks) within =
    elim (cases_Bool (there k)) [
      | inl y ↦
          let w = within k y in
          ap (λ b. list_all (was_born time) (map (λ k. version_of k (f k)) (cond b (k ∷ filter there ks) (filter there ks)))) y
          ∙ and_from _ _ (and_from _ _ (lt-ltb 0 (f k) w.0) (lt-ltb (f k) time w.1)) (born_times time f there ks within)
      | inr n ↦ ap (λ b. list_all (was_born time) (map (λ k. version_of k (f k)) (cond b (k ∷ filter there ks) (filter there ks)))) n ∙ born_times time f there ks within
    ]

-- ---- numbers

pub few_entries : (config : ConfigValue) (h : List Transaction) → AreCommits config h → (s : ℕ) → entries_in h s ≤ last h
few_entries config [] is s = omega arith
few_entries config (t ∷ earlier) is s =
    let rest = few_entries config earlier is.1 s in
    let later = is.0.later in
    let step = count_step t earlier s in
    let one = at_most_one (t.stream == s) in
    omega arith
  where
    at_most_one : (b : Bool) → cond b 1 0 ≤ 1
    at_most_one true = omega arith
    at_most_one false = omega arith

few_closed : (config : ConfigValue) (h : List Transaction) → AreCommits config h → (s u : ℕ) → count_by (is_closed s u) h ≤ u
few_closed config [] is s u = omega arith
few_closed config (t ∷ earlier) is s u =
    let step = closed_step s u t earlier in
    let rest = few_closed config earlier is.1 s u in
    let fewer = closed_entries earlier s u in
    let bound = few_entries config earlier is.1 s in
    let later = is.0.later in
    by (t.stream == s) (nat_le t.time u) refl step rest fewer bound later
  where
    closed_entries : (g : List Transaction) (s u : ℕ) → count_by (is_closed s u) g ≤ entries_in g s
    closed_entries [] s u = omega arith
    closed_entries (x ∷ g) s u =
        let rest = closed_entries g s u in
        let a = closed_step s u x g in
        let b = count_step x g s in
        let here = fewer_of (x.stream == s) (nat_le x.time u) in
        omega arith
      where
        fewer_of : (b c : Bool) → cond (b && c) 1 0 ≤ cond b 1 0
        fewer_of true true = omega arith
        fewer_of true false = omega arith
        fewer_of false c = omega arith

    by : (b c : Bool) → nat_le t.time u ≡ c → count_by (is_closed s u) (t ∷ earlier) ≡ cond (b && c) 1 0 + count_by (is_closed s u) earlier → count_by (is_closed s u) earlier ≤ u → count_by (is_closed s u) earlier ≤ entries_in earlier s → entries_in earlier s ≤ last earlier → last earlier < t.time → count_by (is_closed s u) (t ∷ earlier) ≤ u
    by true true e step rest fewer bound later = let l = leb-true t.time u e in omega arith
    by true false e step rest fewer bound later = omega arith
    by false c e step rest fewer bound later = omega arith

-- ---- items

counts_formed : (ends rows : ℕ) → ends ≤ 1024 → rows ≤ 1024 → 0 < ends + rows → counts_fit ends rows ≡ true
counts_formed ends rows few_ends few_rows some =
    and_from (nat_lt ends 1025 && nat_lt rows 1025) (nat_lt 0 (ends + rows)) (and_from (nat_lt ends 1025) (nat_lt rows 1025) (lt-ltb ends 1025 (omega arith)) (lt-ltb rows 1025 (omega arith))) (lt-ltb 0 (ends + rows) some)

pub entry_formed : (config : ConfigValue) (earlier : List Transaction) (t : Transaction) → config.log < 2 ^ 64 → config.streams ≤ 64 → AreCommits config earlier → Follows config earlier t → IsEntry (entry_of config earlier t)
entry_formed config earlier t log streams is f =
    let above = f.stream_above in
    let within = f.stream_within in
    let few = few_entries config earlier is t.stream in
    let later = f.later in
    let ends_few = fewer_ends (λ k. finmap.contains_key (tables_of earlier) k) (λ k. version_of k (last_put earlier k)) t.writes in
    let rows_few = fewer_rows t.writes in
    let writes = f.few_writes in
    let some = some_fact (tables_of earlier) (λ k. version_of k (last_put earlier k)) t.writes f.some_write f.removes_present in
    record {
      log = log;
      stream_least = omega arith;
      stream_most = omega arith;
      number_least = omega arith;
      number = omega arith;
      time = f.in_time;
      counts = counts_formed (length (entry_of config earlier t).ends) (length (entry_of config earlier t).rows) (omega arith) (omega arith) some;
      ends_rise = ends_places (last_put earlier) (λ k. finmap.contains_key (tables_of earlier) k) None (map written_key t.writes) f.keys_rise (after_none (map written_key t.writes));
      rows_rise = rows_places None t.writes f.keys_rise (after_none (map written_key t.writes));
      born = born_times t.time (last_put earlier) (λ k. finmap.contains_key (tables_of earlier) k) (map written_key t.writes) (λ k there. let a = put_time config earlier is k there in let b = last_put_last config earlier is k in (a, omega arith));
    }

entries_formed : (config : ConfigValue) (h : List Transaction) → config.log < 2 ^ 64 → config.streams ≤ 64 → AreCommits config h → (e : EntryValue) → In e (entries_of config h) → IsEntry e
entries_formed config [] log streams is e i = elim i [ ]
entries_formed config (t ∷ earlier) log streams is e (inl s) = subst IsEntry (sym s) (entry_formed config earlier t log streams is.1 is.0)
entries_formed config (t ∷ earlier) log streams is e (inr i) = entries_formed config earlier log streams is.1 e i

pub last_in_time : (config : ConfigValue) (h : List Transaction) → AreCommits config h → last h ≤ 2 ^ 62
last_in_time config [] is = omega arith
last_in_time config (t ∷ earlier) is = is.0.in_time

-- a stream is closed at most up to the last time of all
closed_in_time : (config : ConfigValue) (h : History) → IsHistory config h → (stream upto : ℕ) → MayClose h stream upto → upto ≤ 2 ^ 62
closed_in_time config h is stream upto (inl l) = let last = last_in_time config (commits h) (are_commits config h is) in omega arith
closed_in_time config h is stream upto (inr r) = let e = r.0 in omega arith

pub items_formed : (config : ConfigValue) (h : History) → config.log < 2 ^ 64 → config.streams ≤ 64 → IsHistory config h → (item : Item) → IsItemOf config h item → IsItem item
items_formed config h log streams is (Commit e) i = entries_formed config (commits h) log streams (are_commits config h is) e (Contains_In (entries_of config (commits h)) e i)
items_formed config h log streams is (Closed m) i =
    let above = i.stream_above in
    let within = i.stream_within in
    let upto = closed_in_time config h is m.stream m.upto i.may_close in
    let few = few_closed config (commits h) (are_commits config h is) m.stream m.upto in
    let counted : m.count ≡ count_by (is_closed m.stream m.upto) (commits h) = i.counted in
    let of_log = i.of_log in
    record {
      log = omega arith;
      stream_least = omega arith;
      stream_most = omega arith;
      count = omega arith;
      upto = omega arith;
    }
