-- The keys that are listed by tag, and the rows that are found by them.
use Rattle.std.proofs.Common.{◌≡◌, refl, sym, ap, ◌∙◌, subst, ℕ, Bool, true, false, cond, ◌&&◌, ◌==◌, Option, Some, None, List, [], ◌∷◌, ◌++◌, map, filter, filter_map, All, ◌⊎◌, inl, inr, nat_cmp, eqb-true, eq-eqb, Less, Equal}
use Rattle.std.proofs.lemmas.List.Elements.{All-head, All-tail}
use Rattle.std.proofs.lemmas.Bool.{and_parts, and_from}
use Rattle.std.specs.Option.{is_some, option_map}
use Rattle.std.specs.List.{cons_option}
use Rattle.std.specs.List.Sorted.{IsStrictlySortedBy}
use Rattle.std.specs.Ordering.{eq_by_cmp, ordering_then}
use Rattle.std.specs.Cmp.{Equal-is, tied_itself, nat_cmp_total}
use Rattle.std.specs.FinMap as finmap
use Rattle.hk_types.specs.Values.{RowValue}
use Rattle.hk_types.specs.declared.version_key.VersionKey.{VersionKey}
use Rattle.hk_log.specs.Versions.{VersionValue}
use Rattle.hk_model.specs.History.Rows.{RowKey, version_key_cmp, row_key_cmp}
use Rattle.hk_model.specs.History.Histories.{Tables}
use Rattle.hk_model.specs.Replica.Answers.{visible, rows_where}
use Rattle.hk_model.proofs.Replica.Maps.{version_key_same, row_key_total, row_key_same}
use Rattle.hk_model.proofs.Replica.Members.{In, In-append, In-find}
use Rattle.hk_model.proofs.History.Writes.{In_filter, filter_In}
use Rattle.hk_model.proofs.Replica.Shown.{visible_version}
use Rattle.hk_model.proofs.Replica.Visible.{any_where, get_entry}
use Rattle.hk_model.proofs.Replica.Listed.{Rises, sorted_from, sorted_filter, same_sorted, map_In_pair, In-filter_map, filter_map-In, rises_from}
use Rattle.hk_facts.specs.Facts.{row_of}
use Rattle.hk_index.specs.Tags.{TagKeysValue, StillListed, ListsKeys, is_one_of, is_listed}
use Rattle.hk_chains.specs.Facts.{FactsValue, known_at}
use Rattle.hk_chains.specs.Indexed.{AllListed, if_tagged, tagged_row, rows_of_keys}
use Rattle.hk_chains.specs.Reads.{keyed_if, with_facts}
use Rattle.hk_chains.specs.Versions.{AreVersions}
use Rattle.hk_chains.proofs.StoredFacts.{known_row}

abbrev Known : Type 0
Known = VersionKey × VersionValue

-- each of these versions whose row is known has its key listed
abbrev pub AreRowsListed : TagKeysValue → List Known → Type 0
AreRowsListed keys es = (e : Known) (row : RowValue) → In e es → e.1.row ≡ Some row → is_listed keys e.0.table row.tag e.0.key ≡ true

pub none_listed : (keys : TagKeysValue) → AreRowsListed keys []
none_listed keys e row i = absurd i

pub one_more_listed : (old new : TagKeysValue) (es : List Known) (e : Known) → StillListed old new → ((row : RowValue) → e.1.row ≡ Some row → is_listed new e.0.table row.tag e.0.key ≡ true) → AreRowsListed old es → AreRowsListed new (es ++ e ∷ [])
one_more_listed old new es e still here before d row i at = by (In-append d es (e ∷ []) i)
  where
    by : In d es ⊎ In d (e ∷ []) → is_listed new d.0.table row.tag d.0.key ≡ true
    by (inl j) = still d.0.table row.tag d.0.key (before d row j at)
    by (inr (inl same)) = ap (λ (x : Known). is_listed new x.0.table row.tag x.0.key) same ∙ here row (ap (λ (x : Known). x.1.row) (sym same) ∙ at)
    by (inr (inr never)) = absurd never

pub some_is : (x y : RowValue) → Some x ≡ Some y → x ≡ y
some_is x y e = cc

pub none_is : {P : Type 0} (x : RowValue) → ◌≡◌ {A = Option RowValue} None (Some x) → P
none_is x e = cc

pub all_In : {X : Type 0} (P : X → Type 0) (xs : List X) → All P xs → (x : X) → In x xs → P x
all_In P [] all x i = absurd i
all_In P (y ∷ ys) all x (inl e) = subst P (sym e) (All-head P y ys all)
all_In P (y ∷ ys) all x (inr i) = all_In P ys (All-tail P y ys all) x i

-- where that holds of all versions
pub all_rows_listed : (f : FactsValue) (keys : TagKeysValue) (es : List Known) → AreVersions f es → AreRowsListed keys es → AllListed f keys
all_rows_listed f keys es are listed v row at = by (known_at f v) refl (known_row f v ∙ at)
  where
    by : (o : Option VersionValue) → known_at f v ≡ o → row_of o ≡ Some row → is_listed keys v.table row.tag v.key ≡ true
    by None is e = absurd (let n : ◌≡◌ {A = Option RowValue} None (Some row) = e in cc)
    by (Some w) is e =
        let there = any_where (eq_by_cmp version_key_cmp v) (map (λ (e : Known). e.0) es) (sym (are.all v) ∙ ap is_some is) in
        let same : v ≡ there.0 = version_key_same v there.0 ((Equal-is (version_key_cmp v there.0)).0 there.2) in
        let pair = map_In_pair there.0 es there.1 in
        let known : known_at f there.0 ≡ Some pair.0 = all_In (λ (e : Known). known_at f e.0 ≡ Some e.1) es are.known (there.0, pair.0) pair.1 in
        let held : pair.0 ≡ w = let h : Some pair.0 ≡ Some w = sym known ∙ ap (known_at f) (sym same) ∙ is in cc in
        ap (λ (x : VersionKey). is_listed keys x.table row.tag x.key) same ∙ listed (there.0, pair.0) row pair.1 (ap (λ (x : VersionValue). x.row) held ∙ e)

-- ---- the rows of the keys that are listed

one_of_In : (keys : List ℕ) (key : ℕ) → is_one_of keys key ≡ true → In key keys
one_of_In keys key e =
    let w = any_where (λ k. k == key) keys e in
    subst (λ z. In z keys) (eqb-true w.0 key w.2) w.1

-- what a key is found with
record IsPicked (tables : Tables) (table tag key : ℕ) (k : RowKey) (row : RowValue) : Type 0 where
  at : k ≡ record { table = table; key = key }
  here : finmap.get tables k ≡ Some row
  tagged : (row.tag == tag) ≡ true

module _ (tables : Tables) (table tag : ℕ) where
  abbrev at_key : ℕ → RowKey
  at_key key = record { table = table; key = key }

  -- a key with its row, where it has the tag
  abbrev picked : ℕ → Option (RowKey × RowValue)
  picked key = option_map (λ row. (at_key key, row)) (tagged_row tables table tag key)

  abbrev test : RowKey → RowValue → Bool
  test k row = (k.table == table) && (row.tag == tag)

  listed_rows : (keys : List ℕ) → rows_of_keys tables table tag keys ≡ map (λ e. (e.0.key, e.1)) (filter_map picked keys)
  listed_rows [] = refl
  listed_rows (k ∷ keys) = by (tagged_row tables table tag k) (listed_rows keys)
    where
      by : (o : Option RowValue) → rows_of_keys tables table tag keys ≡ map (λ e. (e.0.key, e.1)) (filter_map picked keys)
          → keyed_if k o ++ rows_of_keys tables table tag keys ≡ map {B = ℕ × RowValue} (λ e. (e.0.key, e.1)) (cons_option (option_map {U = RowKey × RowValue} (λ row. (at_key k, row)) o) (filter_map picked keys))
      by None h = h
      by (Some r) h = ap (λ (l : List (ℕ × RowValue)). (k, r) ∷ l) h

  is_picked : (key : ℕ) (k : RowKey) (row : RowValue) → picked key ≡ Some (k, row) → IsPicked tables table tag key k row
  is_picked key k row e = by (finmap.get tables (at_key key)) refl e
    where
      pair_is : (x y : RowKey × RowValue) → Some x ≡ Some y → x ≡ y
      pair_is x y e = cc

      tag_of : (r : RowValue) (b : Bool) → (r.tag == tag) ≡ b → finmap.get tables (at_key key) ≡ Some r → option_map {U = RowKey × RowValue} (λ row. (at_key key, row)) (cond b (Some r) None) ≡ Some (k, row) → IsPicked tables table tag key k row
      tag_of r true t is e =
          let same = pair_is (at_key key, r) (k, row) e in
          let key_is : at_key key ≡ k = ap (λ (x : RowKey × RowValue). x.0) same in
          let row_is : r ≡ row = ap (λ (x : RowKey × RowValue). x.1) same in
          record { at = sym key_is; here = ap (finmap.get tables) (sym key_is) ∙ is ∙ ap Some row_is; tagged = ap (λ (x : RowValue). x.tag == tag) (sym row_is) ∙ t }
      tag_of r false t is e = absurd cc

      by : (o : Option RowValue) → finmap.get tables (at_key key) ≡ o → option_map {U = RowKey × RowValue} (λ row. (at_key key, row)) (if_tagged tag o) ≡ Some (k, row) → IsPicked tables table tag key k row
      by None is e = absurd cc
      by (Some r) is e = tag_of r (r.tag == tag) refl is e

  picked_here : (k : RowKey) (row : RowValue) → finmap.get tables k ≡ Some row → (k.table == table) ≡ true → (row.tag == tag) ≡ true → picked k.key ≡ Some (k, row)
  picked_here k row here of tagged =
      let same : at_key k.key ≡ k = ap (λ t. record { table = t; key = k.key }) (sym (eqb-true k.table table of)) in
      ap (λ o. option_map {U = RowKey × RowValue} (λ row. (at_key k.key, row)) (if_tagged tag o)) (ap (finmap.get tables) same ∙ here)
      ∙ ap (λ b. option_map {U = RowKey × RowValue} (λ row. (at_key k.key, row)) (cond b (Some row) None)) tagged
      ∙ ap (λ (x : RowKey). Some (x, row)) same

  rise_one : (key : ℕ) (keys : List ℕ) → ((y : ℕ) → In y keys → nat_cmp key y ≡ Less) → (k : RowKey) → In k (map (λ e. e.0) (filter_map picked keys)) → row_key_cmp (at_key key) k ≡ Less
  rise_one key keys above k i =
      let p = map_In_pair k (filter_map picked keys) i in
      let w = In-filter_map picked (k, p.0) keys p.1 in
      let is = is_picked w.0 k p.0 w.2 in
      ap (row_key_cmp (at_key key)) is.at ∙ ap (λ o. ordering_then o (nat_cmp key w.0)) (nat_itself table) ∙ above w.0 w.1
    where
      nat_itself : (n : ℕ) → nat_cmp n n ≡ Equal
      nat_itself n = tied_itself nat_cmp_total n

  keys_rise : (keys : List ℕ) → Rises nat_cmp keys → Rises row_key_cmp (map (λ e. e.0) (filter_map picked keys))
  keys_rise [] r = tt
  keys_rise (key ∷ keys) r = by (keys_rise keys r.1) (rise_one key keys r.0) (tagged_row tables table tag key)
    where
      by : Rises row_key_cmp (map (λ e. e.0) (filter_map picked keys)) → ((k : RowKey) → In k (map (λ e. e.0) (filter_map picked keys)) → row_key_cmp (at_key key) k ≡ Less) → (o : Option RowValue)
          → Rises row_key_cmp (map (λ e. e.0) (cons_option (option_map {U = RowKey × RowValue} (λ row. (at_key key, row)) o) (filter_map picked keys)))
      by rest first None = rest
      by rest first (Some r) = (first, rest)

  -- the rows of all keys that have the tag, in the order of their keys
  pub rows_are_tagged : (keys : List ℕ) → IsStrictlySortedBy nat_cmp keys → ((k : RowKey) (row : RowValue) → finmap.get tables k ≡ Some row → test k row ≡ true → is_one_of keys k.key ≡ true) → rows_of_keys tables table tag keys ≡ rows_where test tables
  rows_are_tagged keys rising complete =
      listed_rows keys ∙ ap (map {B = ℕ × RowValue} (λ e. (e.0.key, e.1))) (same_sorted row_key_cmp row_key_total row_key_same (filter_map picked keys) (filter (λ e. test e.0 e.1) (finmap.entries tables))
      (sorted_from row_key_cmp (filter_map picked keys) (keys_rise keys (rises_from nat_cmp keys rising)))
      (sorted_filter row_key_cmp (λ e. test e.0 e.1) (finmap.entries tables) (finmap.entries_sorted tables))
      (λ k row i.
      let w = In-filter_map picked (k, row) keys i in
      let is = is_picked w.0 k row w.2 in
      filter_In (λ e. test e.0 e.1) (k, row) (finmap.entries tables) (In-find row_key_cmp row_key_total row_key_same k row (finmap.entries tables) (sym (finmap.get-entries tables k) ∙ is.here))
      (and_from (k.table == table) (row.tag == tag) (ap (λ (x : RowKey). x.table == table) is.at ∙ eq-eqb table table refl) is.tagged))
      (λ k row i.
      let f = In_filter (λ e. test e.0 e.1) (k, row) (finmap.entries tables) i in
      let here = get_entry row_key_cmp row_key_total tables k row f.0 in
      let parts = and_parts (k.table == table) (row.tag == tag) f.1 in
      filter_map-In picked k.key (k, row) keys (one_of_In keys k.key (complete k row here f.1)) (picked_here k row here parts.0 parts.1)))

-- those of the keys that are listed are all rows with the tag
pub tagged_answer : (f : FactsValue) (m : TagKeysValue) (table tag t : ℕ) (keys : List ℕ) → AllListed f m → ListsKeys m table tag keys
    → rows_of_keys (visible (with_facts f) t) table tag keys ≡ rows_where (λ k row. (k.table == table) && (row.tag == tag)) (visible (with_facts f) t)
tagged_answer f m table tag t keys all lists =
    rows_are_tagged (visible (with_facts f) t) table tag keys lists.rising (λ k row here passes.
    let l = visible_version (with_facts f) t k row here in
    let parts = and_parts (k.table == table) (row.tag == tag) passes in
    lists.same k.key
    ∙ (λ i. is_listed m (sym (eqb-true k.table table parts.0) i) (sym (eqb-true row.tag tag parts.1) i) k.key)
    ∙ ap (λ (x : RowKey). is_listed m x.table row.tag x.key) l.of_key
    ∙ all l.version row l.row)
