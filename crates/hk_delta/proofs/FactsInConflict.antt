-- Facts that are joined one after the other are refused exactly where two of them conflict with each other.
use Rattle.std.proofs.Common.{◌≡◌, refl, sym, ap, ◌∙◌, subst, ℕ, Bool, true, false, cond, not, ◌&&◌, ◌||◌, ◌==◌, Option, Some, None, List, [], ◌∷◌, ◌++◌, map, append_assoc, eq-eqb, ◌⊎◌, inl, inr, Result, Ok, Err, true≢false, T}
use Rattle.std.proofs.lemmas.Bool.{and_parts, eqb-true, not-false, not-true, both_ways}
use Rattle.std.specs.List.{list_any, flat_map}
use Rattle.std.specs.Ordering.{eq_by_cmp, is_eq}
use Rattle.std.specs.Cmp.{tied_itself}
use Rattle.std.specs.FinMap as finmap
use Rattle.std.specs.FinMap.{find, is_sorted}
use Rattle.std.specs.FinMap.Entries.{put, is_sorted-put, find-put}
use Rattle.std.proofs.lemmas.List.{append-nil}
use Rattle.std.proofs.lemmas.List.Concat.{flat_map-append}
use Rattle.hk_types.specs.Values.{RowValue, same_row}
use Rattle.hk_types.specs.declared.version_key.VersionKey.{VersionKey}
use Rattle.hk_types.specs.declared.faults.Refusal.{Refusal}
use Rattle.hk_types.specs.declared.faults.Refusal.TheVariants.{Conflict}
use Rattle.hk_model.specs.History.Rows.{version_key_cmp}
use Rattle.hk_model.specs.Replica.Maps.{or_else, values_conflict}
use Rattle.hk_log.specs.declared.item.Item.{Item}
use Rattle.hk_log.specs.declared.item.Item.TheVariants.{Commit, Closed}
use Rattle.hk_model.specs.History.Facts.{inserted_version, entry_rows, row_facts, end_facts}
use Rattle.hk_model.specs.Replica.Rules.{conflict}
use Rattle.hk_model.proofs.Replica.Joins.{same_row_if}
use Rattle.hk_model.proofs.Replica.Maps.{version_key_total, version_key_same, find-append}
use Rattle.hk_model.proofs.Replica.Members.{In, In-left, In-right, In-append, In-find, find-In}
use Rattle.hk_model.proofs.Replica.Shown.{any_In}
use Rattle.hk_model.proofs.Replica.Visible.{any_where}
use Rattle.hk_facts.specs.declared.fact.Fact.TheVariants.{Row, End}
use Rattle.hk_facts.specs.Facts.{row_of, died_of, fact_conflicts, with_fact, if_known}
use Rattle.hk_fragment.specs.Parts.{Known}
use Rattle.hk_store.specs.Facts.{FactsValue, known_at}
use Rattle.hk_store.proofs.SameRows.{same_value}
use Rattle.hk_store.proofs.StoredFacts.{known_row, known_end, or_none}
use Rattle.hk_delta.specs.Gathers.{facts_conflict, row_fact, end_fact, item_facts}
use Rattle.hk_delta.specs.Versions.{FactOn, row_in, end_in, rows_in, ends_in, facts_from, with_made}
use Rattle.hk_delta.proofs.FactsInTurn.{all_joined, stays_refused}
use Rattle.hk_index.proofs.StoredKeys.{tied_versions}

pub itself : (v : VersionKey) → eq_by_cmp version_key_cmp v v ≡ true
itself v = ap is_eq (tied_itself version_key_total v)

get_last : {X : Type 0} (xs : List (VersionKey × X)) (v : VersionKey) (x : X) (q : VersionKey) → finmap.get (finmap.from_entries {R = version_key_cmp} (xs ++ (v, x) ∷ [])) q ≡ or_else (finmap.get (finmap.from_entries {R = version_key_cmp} xs) q) (cond (eq_by_cmp version_key_cmp q v) (Some x) None)
get_last xs v x q =
    finmap.get-from_entries version_key_total (xs ++ (v, x) ∷ []) q
    ∙ find-append version_key_cmp q xs ((v, x) ∷ [])
    ∙ ap (λ o. or_else o (cond (eq_by_cmp version_key_cmp q v) (Some x) None)) (sym (finmap.get-from_entries version_key_total xs q))

module _ {X : Type 0} (same : X → X → Bool) (tells : (a b : X) → same a b ≡ true → a ≡ b) (alike : (a : X) → same a a ≡ true) where
  abbrev mapped : List (VersionKey × X) → finmap.FinMap version_key_cmp X
  mapped xs = finmap.from_entries xs

  -- each fact of the list is what the list says of its version
  abbrev Agrees : List (VersionKey × X) → Type 0
  Agrees xs = (v : VersionKey) (x : X) → In (v, x) xs → finmap.get (mapped xs) v ≡ Some x

  -- one more fact that differs from none agrees with all
  pub agrees_more : (xs : List (VersionKey × X)) (v : VersionKey) (x : X) → Agrees xs → values_conflict same (finmap.get (mapped xs) v) (Some x) ≡ false → Agrees (xs ++ (v, x) ∷ [])
  agrees_more xs v x agrees d w y i = elim (In-append (w, y) xs ((v, x) ∷ []) i) [ inl j ↦ get_last xs v x w ∙ ap (λ o. or_else o (cond (eq_by_cmp version_key_cmp w v) (Some x) None)) (agrees w y j) | inr j ↦ elim j [ inl s ↦ last w y s | inr k ↦ elim k [ ] ] ]
    where
      last : (w : VersionKey) (y : X) → ◌≡◌ {A = VersionKey × X} (w, y) (v, x) → finmap.get (mapped (xs ++ (v, x) ∷ [])) w ≡ Some y
      last w y s =
          let key : w ≡ v = ap (λ (p : VersionKey × X). p.0) s in
          let value : x ≡ y = sym (ap (λ (p : VersionKey × X). p.1) s) in
          get_last xs v x w ∙ (λ i. or_else (finmap.get (mapped xs) (key i)) (cond (eq_by_cmp version_key_cmp (key i) v) (Some x) None))
          ∙ ap (λ b. or_else (finmap.get (mapped xs) v) (cond b (Some x) None)) (itself v)
          ∙ is_same (finmap.get (mapped xs) v) d ∙ ap Some value
        where
          is_same : (o : Option X) → values_conflict same o (Some x) ≡ false → or_else o (Some x) ≡ Some x
          is_same None e = refl
          is_same (Some z) e = ap Some (tells z x (not-false (same z x) e))

  -- a list whose facts agree has no conflict
  pub no_conflict : (xs : List (VersionKey × X)) → Agrees xs → conflict same xs ≡ false
  no_conflict xs agrees = by (conflict same xs) refl
    where
      inside : (a b : X) → ◌≡◌ {A = Option X} (Some a) (Some b) → a ≡ b
      inside a b e = cc

      by : (b : Bool) → conflict same xs ≡ b → b ≡ false
      by true c =
          let e = any_where (λ (e : VersionKey × X). list_any (facts_conflict same e) xs) xs c in
          let f = any_where (facts_conflict same e.0) xs e.2 in
          let p = and_parts (eq_by_cmp version_key_cmp e.0.0 f.0.0) (not (same e.0.1 f.0.1)) f.2 in
          let k = tied_versions e.0.0 f.0.0 p.0 in
          let first = agrees e.0.0 e.0.1 e.1 in
          let second = agrees f.0.0 f.0.1 f.1 in
          let value : e.0.1 ≡ f.0.1 = inside e.0.1 f.0.1 (sym first ∙ ap (finmap.get (mapped xs)) k ∙ second) in
          absurd (both_ways (same e.0.1 f.0.1) (not-true (same e.0.1 f.0.1) p.1) (ap (same e.0.1) (sym value) ∙ alike e.0.1))
      by false c = refl

  pub same_there : (xs : List (VersionKey × X)) → conflict same xs ≡ false → (v : VersionKey) (x y : X) → In (v, x) xs → In (v, y) xs → same x y ≡ true
  same_there xs none v x y i j = by (same x y) refl
    where
      by : (b : Bool) → same x y ≡ b → b ≡ true
      by true e = refl
      by false e =
          let here = any_In (facts_conflict same (v, x)) (v, y) xs j (ap (λ b. b && not (same x y)) (itself v) ∙ ap not e) in
          absurd (true≢false (sym (any_In (λ (e : VersionKey × X). list_any (facts_conflict same e) xs) (v, x) xs i here) ∙ none))

  -- the facts of a list without a conflict agree
  pub agrees_from : (xs : List (VersionKey × X)) → conflict same xs ≡ false → Agrees xs
  agrees_from xs none v x i =
      finmap.get-from_entries version_key_total xs v
      ∙ find-In version_key_cmp version_key_total version_key_same v x xs (λ y j. tells y x (same_there xs none v y x j i)) i

  -- a fact that differs from what is there makes a conflict
  pub some_conflict : (xs ys : List (VersionKey × X)) (v : VersionKey) (x : X) → values_conflict same (finmap.get (mapped xs) v) (Some x) ≡ true → conflict same (xs ++ (v, x) ∷ ys) ≡ true
  some_conflict xs ys v x d = by (finmap.get (mapped xs) v) refl d
    where
      by : (o : Option X) → finmap.get (mapped xs) v ≡ o → values_conflict same o (Some x) ≡ true → conflict same (xs ++ (v, x) ∷ ys) ≡ true
      by None g d = absurd (true≢false (sym d))
      by (Some z) g d =
          let all = xs ++ (v, x) ∷ ys in
          let old : In (v, z) all = In-left (v, z) xs ((v, x) ∷ ys) (In-find version_key_cmp version_key_total version_key_same v z xs (sym (finmap.get-from_entries version_key_total xs v) ∙ g)) in
          let new : In (v, x) all = In-right (v, x) xs ((v, x) ∷ ys) (inl refl) in
          any_In (λ (e : VersionKey × X). list_any (facts_conflict same e) all) (v, z) all old (any_In (facts_conflict same (v, z)) (v, x) all new (ap (λ b. b && not (same z x)) (itself v) ∙ d))

-- ---- rows and ends

pub row_alike : (a : RowValue) → same_row a a ≡ true
row_alike a = same_row_if a a refl

pub time_alike : (a : ℕ) → (a == a) ≡ true
time_alike a = eq-eqb a a refl

abbrev pub AgreeRows : List (VersionKey × RowValue) → Type 0
AgreeRows xs = (v : VersionKey) (x : RowValue) → In (v, x) xs → finmap.get (finmap.from_entries {R = version_key_cmp} xs) v ≡ Some x

abbrev pub AgreeEnds : List (VersionKey × ℕ) → Type 0
AgreeEnds ys = (v : VersionKey) (x : ℕ) → In (v, x) ys → finmap.get (finmap.from_entries {R = version_key_cmp} ys) v ≡ Some x

-- the list has what the facts tell of each version
pub record IsListed (f : FactsValue) (es : List Known) : Type 0 where
  pub rising : T (is_sorted version_key_cmp es)
  pub found : (q : VersionKey) → find version_key_cmp q es ≡ known_at f q

listed_none : IsListed (facts_from [] []) []
listed_none = record { rising = tt; found = λ q. sym (λ i. if_known (record { row = finmap.get-from_entries {X = RowValue} version_key_total [] q i; died = finmap.get-from_entries {X = ℕ} version_key_total [] q i })) }

module _ (xs : List (VersionKey × RowValue)) (ys : List (VersionKey × ℕ)) (v : VersionKey) (es : List Known) (listed : IsListed (facts_from xs ys) es) where
  row_is : row_of (find version_key_cmp v es) ≡ finmap.get (finmap.from_entries {R = version_key_cmp} xs) v
  row_is = ap row_of (listed.found v) ∙ known_row (facts_from xs ys) v

  end_is : died_of (find version_key_cmp v es) ≡ finmap.get (finmap.from_entries {R = version_key_cmp} ys) v
  end_is = ap died_of (listed.found v) ∙ known_end (facts_from xs ys) v

  listed_row : (r : RowValue) → IsListed (facts_from (xs ++ (v, r) ∷ []) ys) (put version_key_cmp v (with_fact (Row r) (find version_key_cmp v es)) es)
  listed_row r = record {
    rising = is_sorted-put version_key_cmp version_key_total v (with_fact (Row r) (find version_key_cmp v es)) es listed.rising;
    found = λ q. find-put version_key_cmp version_key_total q v (with_fact (Row r) (find version_key_cmp v es)) es ∙ by q (eq_by_cmp version_key_cmp q v) refl;
  }
    where
      known : (o : Option RowValue) (d : Option ℕ) → Some (record { row = or_else o (Some r); died = d }) ≡ if_known (record { row = or_else o (Some r); died = d })
      known None d = refl
      known (Some s) d = refl

      by : (q : VersionKey) (b : Bool) → eq_by_cmp version_key_cmp q v ≡ b → cond b (Some (with_fact (Row r) (find version_key_cmp v es))) (find version_key_cmp q es) ≡ known_at (facts_from (xs ++ (v, r) ∷ []) ys) q
      by q true t =
          (λ i. Some (record { row = or_else (row_is i) (Some r); died = end_is i }))
          ∙ known (finmap.get (finmap.from_entries {R = version_key_cmp} xs) v) (finmap.get (finmap.from_entries {R = version_key_cmp} ys) v)
          ∙ sym (λ i. if_known (record { row = (get_last xs v r q ∙ (λ j. or_else (finmap.get (finmap.from_entries {R = version_key_cmp} xs) (tied_versions q v t j)) (cond (t j) (Some r) None))) i; died = finmap.get (finmap.from_entries {R = version_key_cmp} ys) (tied_versions q v t i) }))
      by q false t =
          listed.found q
          ∙ sym (λ i. if_known (record { row = (get_last xs v r q ∙ (λ j. or_else (finmap.get (finmap.from_entries {R = version_key_cmp} xs) q) (cond (t j) (Some r) None)) ∙ or_none (finmap.get (finmap.from_entries {R = version_key_cmp} xs) q)) i; died = finmap.get (finmap.from_entries {R = version_key_cmp} ys) q }))

  listed_end : (d : ℕ) → IsListed (facts_from xs (ys ++ (v, d) ∷ [])) (put version_key_cmp v (with_fact (End d) (find version_key_cmp v es)) es)
  listed_end d = record {
    rising = is_sorted-put version_key_cmp version_key_total v (with_fact (End d) (find version_key_cmp v es)) es listed.rising;
    found = λ q. find-put version_key_cmp version_key_total q v (with_fact (End d) (find version_key_cmp v es)) es ∙ by q (eq_by_cmp version_key_cmp q v) refl;
  }
    where
      known : (r : Option RowValue) (o : Option ℕ) → Some (record { row = r; died = or_else o (Some d) }) ≡ if_known (record { row = r; died = or_else o (Some d) })
      known None None = refl
      known None (Some s) = refl
      known (Some r) o = refl

      by : (q : VersionKey) (b : Bool) → eq_by_cmp version_key_cmp q v ≡ b → cond b (Some (with_fact (End d) (find version_key_cmp v es))) (find version_key_cmp q es) ≡ known_at (facts_from xs (ys ++ (v, d) ∷ [])) q
      by q true t =
          (λ i. Some (record { row = row_is i; died = or_else (end_is i) (Some d) }))
          ∙ known (finmap.get (finmap.from_entries {R = version_key_cmp} xs) v) (finmap.get (finmap.from_entries {R = version_key_cmp} ys) v)
          ∙ sym (λ i. if_known (record { row = finmap.get (finmap.from_entries {R = version_key_cmp} xs) (tied_versions q v t i); died = (get_last ys v d q ∙ (λ j. or_else (finmap.get (finmap.from_entries {R = version_key_cmp} ys) (tied_versions q v t j)) (cond (t j) (Some d) None))) i }))
      by q false t =
          listed.found q
          ∙ sym (λ i. if_known (record { row = finmap.get (finmap.from_entries {R = version_key_cmp} xs) q; died = (get_last ys v d q ∙ (λ j. or_else (finmap.get (finmap.from_entries {R = version_key_cmp} ys) q) (cond (t j) (Some d) None)) ∙ or_none (finmap.get (finmap.from_entries {R = version_key_cmp} ys) q)) i }))

-- facts that agree were joined, or a conflict was refused
abbrev pub Settles : List (VersionKey × RowValue) → List (VersionKey × ℕ) → Result (List Known) Refusal → Type 0
Settles xs ys r =
    ((es : List Known) × (r ≡ Ok es) × IsListed (facts_from xs ys) es × (conflict same_row xs ≡ false) × (conflict (λ a b. a == b) ys ≡ false))
    ⊎ ((r ≡ Err Conflict) × ((conflict same_row xs || conflict (λ a b. a == b) ys) ≡ true))

or_true : (b : Bool) → (b || true) ≡ true
or_true true = refl
or_true false = refl

-- what is joined after what agrees
abbrev Rest : List FactOn → Type 0
Rest ss = (xs : List (VersionKey × RowValue)) (ys : List (VersionKey × ℕ)) (es : List Known) → AgreeRows xs → AgreeEnds ys → IsListed (facts_from xs ys) es → Settles (xs ++ rows_in ss) (ys ++ ends_in ss) (all_joined (Ok es) ss)

module _ (v : VersionKey) (ss : List FactOn) (rest : Rest ss) (xs : List (VersionKey × RowValue)) (ys : List (VersionKey × ℕ)) (es : List Known) (rows : AgreeRows xs) (ends : AgreeEnds ys) (listed : IsListed (facts_from xs ys) es) where
  row_settles : (r : RowValue) (b : Bool) → fact_conflicts (Row r) (find version_key_cmp v es) ≡ b → Settles (xs ++ (v, r) ∷ rows_in ss) (ys ++ ends_in ss) (all_joined (with_made v es (cond b (Err Conflict) (Ok (with_fact (Row r) (find version_key_cmp v es))))) ss)
  row_settles r true e =
      inr (stays_refused Conflict ss, ap (λ b. b || conflict (λ a b. a == b) (ys ++ ends_in ss)) (some_conflict same_row same_value row_alike xs (rows_in ss) v r (ap (λ o. values_conflict same_row o (Some r)) (sym (row_is xs ys v es listed)) ∙ e)))
  row_settles r false e =
      subst (λ (l : List (VersionKey × RowValue)). Settles l (ys ++ ends_in ss) (all_joined (Ok (put version_key_cmp v (with_fact (Row r) (find version_key_cmp v es)) es)) ss)) (append_assoc xs ((v, r) ∷ []) (rows_in ss))
      (rest (xs ++ (v, r) ∷ []) ys (put version_key_cmp v (with_fact (Row r) (find version_key_cmp v es)) es) (agrees_more same_row same_value row_alike xs v r rows (ap (λ o. values_conflict same_row o (Some r)) (sym (row_is xs ys v es listed)) ∙ e)) ends (listed_row xs ys v es listed r))

  end_settles : (d : ℕ) (b : Bool) → fact_conflicts (End d) (find version_key_cmp v es) ≡ b → Settles (xs ++ rows_in ss) (ys ++ (v, d) ∷ ends_in ss) (all_joined (with_made v es (cond b (Err Conflict) (Ok (with_fact (End d) (find version_key_cmp v es))))) ss)
  end_settles d true e =
      inr (stays_refused Conflict ss, ap (λ b. conflict same_row (xs ++ rows_in ss) || b) (some_conflict (λ a b. a == b) eqb-true time_alike ys (ends_in ss) v d (ap (λ o. values_conflict (λ a b. a == b) o (Some d)) (sym (end_is xs ys v es listed)) ∙ e)) ∙ or_true (conflict same_row (xs ++ rows_in ss)))
  end_settles d false e =
      subst (λ (l : List (VersionKey × ℕ)). Settles (xs ++ rows_in ss) l (all_joined (Ok (put version_key_cmp v (with_fact (End d) (find version_key_cmp v es)) es)) ss)) (append_assoc ys ((v, d) ∷ []) (ends_in ss))
      (rest xs (ys ++ (v, d) ∷ []) (put version_key_cmp v (with_fact (End d) (find version_key_cmp v es)) es) rows (agrees_more (λ a b. a == b) eqb-true time_alike ys v d ends (ap (λ o. values_conflict (λ a b. a == b) o (Some d)) (sym (end_is xs ys v es listed)) ∙ e)) (listed_end xs ys v es listed d))

settles : (ss : List FactOn) → Rest ss
settles [] xs ys es rows ends listed =
    subst (λ (l : List (VersionKey × RowValue)). Settles l (ys ++ []) (Ok es)) (sym (append-nil xs))
    (subst (λ (l : List (VersionKey × ℕ)). Settles xs l (Ok es)) (sym (append-nil ys))
    (inl (es, refl, listed, no_conflict same_row same_value row_alike xs rows, no_conflict (λ a b. a == b) eqb-true time_alike ys ends)))
settles ((v, Row r) ∷ ss) xs ys es rows ends listed = row_settles v ss (settles ss) xs ys es rows ends listed r (fact_conflicts (Row r) (find version_key_cmp v es)) refl
settles ((v, End d) ∷ ss) xs ys es rows ends listed = end_settles v ss (settles ss) xs ys es rows ends listed d (fact_conflicts (End d) (find version_key_cmp v es)) refl

pub facts_settle : (ss : List FactOn) → Settles (rows_in ss) (ends_in ss) (all_joined (Ok []) ss)
facts_settle ss = settles ss [] [] [] (λ v x i. elim i [ ]) (λ v x i. elim i [ ]) listed_none

-- ---- items

rows_of_rows : (time : ℕ) (ps : List (ℕ × ℕ × RowValue)) → rows_in (flat_map (row_fact time) ps) ≡ map (inserted_version time) ps
rows_of_rows time [] = refl
rows_of_rows time (p ∷ ps) = ap (λ l. inserted_version time p ∷ l) (rows_of_rows time ps)

rows_of_ends : (time : ℕ) (vs : List VersionKey) → rows_in (flat_map (end_fact time) vs) ≡ []
rows_of_ends time [] = refl
rows_of_ends time (v ∷ vs) = rows_of_ends time vs

ends_of_rows : (time : ℕ) (ps : List (ℕ × ℕ × RowValue)) → ends_in (flat_map (row_fact time) ps) ≡ []
ends_of_rows time [] = refl
ends_of_rows time (p ∷ ps) = ends_of_rows time ps

ends_of_ends : (time : ℕ) (vs : List VersionKey) → ends_in (flat_map (end_fact time) vs) ≡ map (λ v. (v, time)) vs
ends_of_ends time [] = refl
ends_of_ends time (v ∷ vs) = ap (λ l. (v, time) ∷ l) (ends_of_ends time vs)

pub inserted_rows_in : (items : List Item) → rows_in (flat_map item_facts items) ≡ row_facts items
inserted_rows_in [] = refl
inserted_rows_in (Commit e ∷ items) =
    flat_map-append row_in (item_facts (Commit e)) (flat_map item_facts items)
    ∙ (λ i. (flat_map-append row_in (flat_map (row_fact e.time) e.rows) (flat_map (end_fact e.time) e.ends) ∙ (λ j. rows_of_rows e.time e.rows j ++ rows_of_ends e.time e.ends j) ∙ append-nil (entry_rows e)) i ++ inserted_rows_in items i)
inserted_rows_in (Closed m ∷ items) = inserted_rows_in items

pub stated_ends_in : (items : List Item) → ends_in (flat_map item_facts items) ≡ end_facts items
stated_ends_in [] = refl
stated_ends_in (Commit e ∷ items) =
    flat_map-append end_in (item_facts (Commit e)) (flat_map item_facts items)
    ∙ (λ i. (flat_map-append end_in (flat_map (row_fact e.time) e.rows) (flat_map (end_fact e.time) e.ends) ∙ (λ j. ends_of_rows e.time e.rows j ++ ends_of_ends e.time e.ends j)) i ++ stated_ends_in items i)
stated_ends_in (Closed m ∷ items) = stated_ends_in items
