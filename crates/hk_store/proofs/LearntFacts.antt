-- What facts learn of a list of versions, one after the other, they learn of all that it tells.
use Rattle.std.proofs.Common.{◌≡◌, refl, sym, ap, ◌∙◌, subst, ℕ, Bool, true, false, cond, not, ◌||◌, ◌==◌, Option, Some, None, Result, Ok, Err, List, [], ◌∷◌, ◌++◌, map, nat_cmp, nat_le, nat_lt, is_lt, inl, inr, arith}
use Rattle.std.proofs.lemmas.Bool.{or_from, or_left, or_parts, or_right}
use Rattle.std.proofs.lemmas.Bool.Decides.{nat_tests}
use Rattle.std.proofs.lemmas.Grind.{flat_map-append}
use Rattle.std.proofs.lemmas.List.{append-nil, map-append}
use Rattle.std.proofs.lemmas.Map.Keys.{sorted_head, sorted_tail}
use Rattle.std.specs.Option.{option_and_then}
use Rattle.std.specs.List.{flat_map, list_any, AllByRecursion}
use Rattle.std.specs.declared.cmp.Ordering.{Ordering}
use Rattle.std.specs.declared.cmp.Ordering.TheVariants.{Less, Equal}
use Rattle.std.specs.Cmp.{tied_itself}
use Rattle.std.specs.List.Sorted.{IsStrictlySortedBy}
use Rattle.std.specs.Ordering.{eq_by_cmp}
use Rattle.std.specs.Result.{IfErr, IsErrAnd}
use Rattle.std.specs.FinMap as finmap
use Rattle.std.specs.FinMap.{find}
use Rattle.hk_types.specs.Values.{RowValue, same_row}
use Rattle.hk_types.specs.declared.faults.Refusal.{Refusal}
use Rattle.hk_types.specs.declared.version_key.VersionKey.{VersionKey}
use Rattle.hk_log.specs.Versions.{VersionValue}
use Rattle.hk_model.specs.History.Rows.{version_key_cmp}
use Rattle.hk_model.specs.Replica.Content.{at_most, without_ended}
use Rattle.hk_model.specs.Replica.Maps.{or_else, union, values_conflict}
use Rattle.hk_model.specs.Replica.Rules.{contents_conflict}
use Rattle.hk_model.proofs.Replica.Maps.{version_key_total, version_key_same, get-retain, get-union, get-without_ended, find-append}
use Rattle.hk_index.proofs.StoredKeys.{tied_versions}
use Rattle.hk_facts.specs.Facts.{row_of, died_of, if_known}
use Rattle.hk_facts.specs.declared.fact.Fact.TheVariants.{Row, End}
use Rattle.hk_store.specs.Changes.{with_listed}
use Rattle.hk_chains.specs.Facts.{FactsValue, entry_if, known_at, with_added, with_fact_at}
use Rattle.hk_chains.specs.Drops.{is_among}
use Rattle.hk_store.specs.Learning.{RefusesEnd, RefusesRow, RefusesVersion, RefusesTold, end_conflicts, row_conflicts, row_told, end_told, rows_told, ends_told, told_by, with_told, with_version_told}
use Rattle.hk_chains.specs.Reads.{with_facts}
use Rattle.hk_chains.specs.Versions.{AreVersions, value_conflicts_at}
use Rattle.hk_chains.proofs.ChangedChains.{same_facts}
use Rattle.hk_store.proofs.EntryPut.{any_found}
use Rattle.hk_store.proofs.RolledBack.{union_none, union_push}
use Rattle.hk_store.proofs.ListedVersions.{conflict_listed}
use Rattle.hk_store.proofs.PickedVersions.{find_picked}
use Rattle.hk_chains.proofs.StoredFacts.{known_row, known_end, or_none, find_entry}

-- ---- lists that are put in

module _ {X : Type 0} (m : finmap.FinMap version_key_cmp X) where
  get_listed : (es : List (VersionKey × X)) (q : VersionKey) → finmap.get (union m (finmap.from_entries es)) q ≡ or_else (finmap.get m q) (find version_key_cmp q es)
  get_listed es q = get-union version_key_total version_key_same m (finmap.from_entries es) q ∙ ap (or_else (finmap.get m q)) (finmap.get-from_entries version_key_total es q)

  -- one list after the other
  pub both_lists : (es fs : List (VersionKey × X)) → union (union m (finmap.from_entries es)) (finmap.from_entries fs) ≡ union m (finmap.from_entries (es ++ fs))
  both_lists es fs = finmap.same_map version_key_total version_key_same _ _ (λ q.
      get-union version_key_total version_key_same (union m (finmap.from_entries es)) (finmap.from_entries fs) q
      ∙ (λ i. or_else (get_listed es q i) (finmap.get-from_entries version_key_total fs q i))
      ∙ assoc (finmap.get m q) (find version_key_cmp q es) (find version_key_cmp q fs)
      ∙ ap (or_else (finmap.get m q)) (sym (find-append version_key_cmp q es fs))
      ∙ sym (get_listed (es ++ fs) q))
    where
      assoc : (a b c : Option X) → or_else (or_else a b) c ≡ or_else a (or_else b c)
      assoc None b c = refl
      assoc (Some a) b c = refl

  -- one that is put in
  pub one_listed : (v : VersionKey) (x : X) → with_added m v x ≡ union m (finmap.from_entries ((v, x) ∷ []))
  one_listed v x = ap (λ n. with_added n v x) (sym (union_none m)) ∙ union_push m [] v x

-- ---- facts with lists put in

pub none_put : (f : FactsValue) → f ≡ with_listed f [] []
none_put f = λ i. record { rows = sym (union_none f.rows) i; ends = sym (union_none f.ends) i }

pub row_put_in : (f : FactsValue) (v : VersionKey) (row : RowValue) → with_fact_at f v (Row row) ≡ with_listed f ((v, row) ∷ []) []
row_put_in f v row = λ i. record { rows = one_listed f.rows v row i; ends = sym (union_none f.ends) i }

pub end_put_in : (f : FactsValue) (v : VersionKey) (died : ℕ) → with_fact_at f v (End died) ≡ with_listed f [] ((v, died) ∷ [])
end_put_in f v died = λ i. record { rows = sym (union_none f.rows) i; ends = one_listed f.ends v died i }

pub lists_put : (f : FactsValue) (rows more : List (VersionKey × RowValue)) (ends others : List (VersionKey × ℕ)) → with_listed (with_listed f rows ends) more others ≡ with_listed f (rows ++ more) (ends ++ others)
lists_put f rows more ends others = λ i. record { rows = both_lists f.rows rows more i; ends = both_lists f.ends ends others i }

-- ---- one version

pub never : {X : Type 0} (b : Bool) (o : Option X) → o ≡ None → cond b o None ≡ None
never true o none = none
never false o none = refl

-- whether an end comes
module _ (h : ℕ) where
  abbrev coming : Option ℕ → Option ℕ
  coming o = cond (not (at_most h o)) o None

  late : (died : ℕ) → not (nat_le died h) ≡ is_lt (nat_cmp h died)
  late died = grind (arith, nat_tests)

  pub no_end : (o : Option ℕ) → o ≡ None → coming o ≡ None
  no_end o none = ap coming none

  pub end_above : (died : ℕ) (o : Option ℕ) → o ≡ Some died → is_lt (nat_cmp h died) ≡ true → coming o ≡ Some died
  end_above died o is above = ap coming is ∙ ap (λ b. cond b (Some died) None) (late died ∙ above)

  pub end_below : (died : ℕ) (o : Option ℕ) → o ≡ Some died → is_lt (nat_cmp h died) ≡ false → coming o ≡ None
  end_below died o is below = ap coming is ∙ ap (λ b. cond b (Some died) None) (late died ∙ below)

-- what comes is put in
pub row_comes_in : (f new : FactsValue) (v : VersionKey) (o : Option RowValue) (row copied : RowValue) → o ≡ Some row → copied ≡ row → new ≡ with_fact_at f v (Row copied) → new ≡ with_listed f (entry_if v o) []
row_comes_in f new v o row copied is same put = put ∙ ap (λ x. with_fact_at f v (Row x)) same ∙ row_put_in f v row ∙ ap (λ x. with_listed f (entry_if v x) []) (sym is)

pub end_comes_in : (f new : FactsValue) (v : VersionKey) (o : Option ℕ) (died : ℕ) → o ≡ Some died → new ≡ with_fact_at f v (End died) → new ≡ with_listed f [] (entry_if v o)
end_comes_in f new v o died is put = put ∙ end_put_in f v died ∙ ap (λ x. with_listed f [] (entry_if v x)) (sym is)

pub no_row_comes : (f : FactsValue) (v : VersionKey) (o : Option RowValue) → o ≡ None → f ≡ with_listed f (entry_if v o) []
no_row_comes f v o is = none_put f ∙ ap (λ x. with_listed f (entry_if v x) []) (sym is)

pub no_end_comes : (f : FactsValue) (v : VersionKey) (o : Option ℕ) → o ≡ None → f ≡ with_listed f [] (entry_if v o)
no_end_comes f v o is = none_put f ∙ ap (λ x. with_listed f [] (entry_if v x)) (sym is)

-- where a row was put in before, the end is compared as it was
module _ (f now : FactsValue) (v : VersionKey) (told : VersionValue) (rows : List (VersionKey × RowValue)) (is : now ≡ with_listed f rows []) where
  end_as_before : end_conflicts now v told ≡ end_conflicts f v told
  end_as_before = ap (λ (n : FactsValue). end_conflicts n v told) is ∙ ap (λ m. values_conflict (λ a b. a == b) (finmap.get m v) told.died) (union_none f.ends)

  pub both_agree : row_conflicts f v told ≡ false → end_conflicts now v told ≡ false → value_conflicts_at f v told ≡ false
  both_agree row end = or_from _ _ row (sym end_as_before ∙ end)

  pub end_refused : (why : Refusal) → RefusesEnd now v told why → RefusesVersion f v told why
  end_refused why (inl e) = inl (e.0, or_right _ _ (sym end_as_before ∙ e.1))
  end_refused why (inr e) = inr e

pub row_refused : (f : FactsValue) (v : VersionKey) (told : VersionValue) (why : Refusal) → RefusesRow f v told why → RefusesVersion f v told why
row_refused f v told why (inl e) = inl (e.0, or_left _ _ e.1)
row_refused f v told why (inr e) = inr e

-- a row and then an end
pub both_put : (f now new : FactsValue) (rows : List (VersionKey × RowValue)) (ends : List (VersionKey × ℕ)) → now ≡ with_listed f rows [] → new ≡ with_listed now [] ends → new ≡ with_listed f rows ends
both_put f now new rows ends first then = then ∙ ap (λ n. with_listed n [] ends) first ∙ lists_put f rows [] [] ends ∙ ap (λ l. with_listed f l ends) (append-nil rows)

-- ---- what rises has no version twice

at_it : (P : VersionKey → Type 0) (xs ys : List VersionKey) (k : VersionKey) → AllByRecursion P (xs ++ k ∷ ys) → P k
at_it P [] ys k all = all.0
at_it P (x ∷ xs) ys k all = at_it P xs ys k all.1

apart : (k v : VersionKey) → version_key_cmp k v ≡ Less → eq_by_cmp version_key_cmp v k ≡ false
apart k v l = by (eq_by_cmp version_key_cmp v k) refl
  where
    other : ◌≡◌ {A = Ordering} Less Equal → ⊥
    other e = cc

    by : (b : Bool) → eq_by_cmp version_key_cmp v k ≡ b → b ≡ false
    by false e = refl
    by true e = absurd (other (sym l ∙ ap (version_key_cmp k) (tied_versions v k e) ∙ tied_itself version_key_total k))

pub not_before : (xs ys : List VersionKey) (k : VersionKey) → IsStrictlySortedBy version_key_cmp (xs ++ k ∷ ys) → is_among xs k ≡ false
not_before [] ys k s = refl
not_before (x ∷ xs) ys k s =
    ap (λ b. b || is_among xs k) (apart x k (at_it (λ y. version_key_cmp x y ≡ Less) xs ys k (sorted_head version_key_cmp x (xs ++ k ∷ ys) s)))
    ∙ not_before xs ys k (sorted_tail version_key_cmp x (xs ++ k ∷ ys) s)

-- ---- a list of versions, as far as it was learnt

none_picked : {Y : Type 0} (pick : VersionKey → VersionValue → Option Y) (v : VersionKey) (es : List (VersionKey × VersionValue)) → is_among (map (λ e. e.0) es) v ≡ false → find version_key_cmp v (flat_map (λ e. entry_if e.0 (pick e.0 e.1)) es) ≡ None
none_picked pick v [] not = refl
none_picked pick v (e ∷ es) not =
    let parts = or_parts (eq_by_cmp version_key_cmp v e.0) (is_among (map (λ e. e.0) es) v) not in
    find-append version_key_cmp v (entry_if e.0 (pick e.0 e.1)) (flat_map (λ e. entry_if e.0 (pick e.0 e.1)) es)
    ∙ (λ i. or_else ((find_entry v e.0 (pick e.0 e.1) ∙ ap (λ b. cond b (pick e.0 e.1) None) parts.0) i) (none_picked pick v es parts.1 i))

module _ (old : Bool) (h : ℕ) (f : FactsValue) where
  -- the facts with what comes of a list
  abbrev pub learnt : List (VersionKey × VersionValue) → FactsValue
  learnt es = with_listed f (rows_told old h es) (ends_told old h es)

  pub learnt_more : (now new : FactsValue) (es : List (VersionKey × VersionValue)) (e : VersionKey × VersionValue) → now ≡ learnt es → new ≡ with_version_told old h now e.0 e.1 → new ≡ learnt (es ++ e ∷ [])
  learnt_more now new es e before one =
      one
      ∙ ap (λ n. with_version_told old h n e.0 e.1) before
      ∙ lists_put f (rows_told old h es) (entry_if e.0 (row_told old h e.0 e.1)) (ends_told old h es) (entry_if e.0 (end_told old h e.0 e.1))
      ∙ (λ i. with_listed f (sym (pushed (λ e. row_told old h e.0 e.1)) i) (sym (pushed (λ e. end_told old h e.0 e.1)) i))
    where
      pushed : {Y : Type 0} (pick : VersionKey × VersionValue → Option Y) → flat_map (λ e. entry_if e.0 (pick e)) (es ++ e ∷ []) ≡ flat_map (λ e. entry_if e.0 (pick e)) es ++ entry_if e.0 (pick e)
      pushed pick = flat_map-append (λ e. entry_if e.0 (pick e)) es (e ∷ []) ∙ ap (λ l. flat_map (λ e. entry_if e.0 (pick e)) es ++ l) (append-nil (entry_if e.0 (pick e)))

  -- the next version is compared with what was known before all
  pub conflicts_as_before : (now : FactsValue) (whole es rest : List (VersionKey × VersionValue)) (e : VersionKey × VersionValue) → IsStrictlySortedBy version_key_cmp (map (λ e. e.0) whole) → whole ≡ es ++ e ∷ rest → now ≡ learnt es → value_conflicts_at f e.0 e.1 ≡ value_conflicts_at now e.0 e.1
  conflicts_as_before now whole es rest e rising is before = λ i. values_conflict same_row (sym row i) e.1.row || values_conflict (λ a b. a == b) (sym end i) e.1.died
    where
      new : is_among (map (λ e. e.0) es) e.0 ≡ false
      new = not_before (map (λ e. e.0) es) (map (λ e. e.0) rest) e.0 (subst (IsStrictlySortedBy version_key_cmp) (ap (map (λ e. e.0)) is ∙ map-append (λ e. e.0) es (e ∷ rest)) rising)

      row : finmap.get now.rows e.0 ≡ finmap.get f.rows e.0
      row = ap (λ (n : FactsValue). finmap.get n.rows e.0) before ∙ get_listed f.rows (rows_told old h es) e.0 ∙ ap (or_else (finmap.get f.rows e.0)) (none_picked (row_told old h) e.0 es new) ∙ or_none (finmap.get f.rows e.0)

      end : finmap.get now.ends e.0 ≡ finmap.get f.ends e.0
      end = ap (λ (n : FactsValue). finmap.get n.ends e.0) before ∙ get_listed f.ends (ends_told old h es) e.0 ∙ ap (or_else (finmap.get f.ends e.0)) (none_picked (end_told old h) e.0 es new) ∙ or_none (finmap.get f.ends e.0)

  -- all of it was learnt
  pub all_learnt : (g : FactsValue) (es : List (VersionKey × VersionValue)) → AreVersions g es → learnt es ≡ with_told old h f g
  all_learnt g es are = same_facts (learnt es) (with_told old h f g) row end
    where
      neither : {X : Type 0} (b : Bool) → ◌≡◌ {A = Option X} None (cond b None None)
      neither true = refl
      neither false = refl

      row_comes : (q : VersionKey) (r : Option RowValue) (d : Option ℕ) → option_and_then (row_told old h q) (if_known (record { row = r; died = d })) ≡ cond (nat_lt h q.born || old) r None
      row_comes q None None = neither (nat_lt h q.born || old)
      row_comes q None (Some d) = refl
      row_comes q (Some r) d = refl

      end_comes : (q : VersionKey) (r : Option RowValue) (d : Option ℕ) → option_and_then (end_told old h q) (if_known (record { row = r; died = d })) ≡ cond (not (at_most h d)) d None
      end_comes q None None = refl
      end_comes q None (Some d) = refl
      end_comes q (Some r) d = refl

      row : (q : VersionKey) → finmap.get (learnt es).rows q ≡ finmap.get (with_told old h f g).rows q
      row q =
          get_listed f.rows (rows_told old h es) q
          ∙ ap (or_else (finmap.get f.rows q)) (find_picked g (row_told old h) q es are ∙ row_comes q (finmap.get g.rows q) (finmap.get g.ends q) ∙ sym (get-retain version_key_total version_key_same g.rows (λ v. nat_lt h v.born || old) q))
          ∙ sym (get-union version_key_total version_key_same f.rows (finmap.retain_keys g.rows (λ v. nat_lt h v.born || old)) q)

      end : (q : VersionKey) → finmap.get (learnt es).ends q ≡ finmap.get (with_told old h f g).ends q
      end q =
          get_listed f.ends (ends_told old h es) q
          ∙ ap (or_else (finmap.get f.ends q)) (find_picked g (end_told old h) q es are ∙ end_comes q (finmap.get g.rows q) (finmap.get g.ends q) ∙ sym (get-without_ended g.ends h g.ends q))
          ∙ sym (get-union version_key_total version_key_same f.ends (without_ended g.ends h g.ends) q)

  pub none_conflict : (g : FactsValue) (es : List (VersionKey × VersionValue)) → AreVersions g es → list_any (λ e. value_conflicts_at f e.0 e.1) es ≡ false → contents_conflict (with_facts f) (with_facts g) ≡ false
  none_conflict g es are none = sym (conflict_listed f g es are) ∙ none

pub refused_on : {A : Type 0} (P : Refusal → Type 0) (r : Result A Refusal) (why : Refusal) → IsErrAnd r (λ e. e ≡ why) → P why → IfErr r P
refused_on P (Ok a) why is p = tt
refused_on P (Err w) why is p = subst P (sym is) p

-- one that is refused refuses all
pub refused_told : (f now g : FactsValue) (whole es rest : List (VersionKey × VersionValue)) (e : VersionKey × VersionValue) (why : Refusal) → AreVersions g whole → whole ≡ es ++ e ∷ rest → list_any (λ e. value_conflicts_at f e.0 e.1) es ≡ false → value_conflicts_at f e.0 e.1 ≡ value_conflicts_at now e.0 e.1 → RefusesVersion now e.0 e.1 why → RefusesTold f g why
refused_told f now g whole es rest e why are is before same (inl conflict) =
    inl (conflict.0, sym (conflict_listed f g whole are) ∙ any_found (λ e. value_conflicts_at f e.0 e.1) whole es rest e is before (same ∙ conflict.1))
refused_told f now g whole es rest e why are is before same (inr memory) = inr memory

-- ---- a list tells what it is a list of

pub told_of : (g : FactsValue) (es : List (VersionKey × VersionValue)) → AreVersions g es → told_by es ≡ g
told_of g es are = same_facts (told_by es) g
    (λ q. finmap.get-from_entries version_key_total _ q ∙ find_picked g (λ v x. x.row) q es are ∙ read_row (known_at g q) ∙ known_row g q)
    (λ q. finmap.get-from_entries version_key_total _ q ∙ find_picked g (λ v x. x.died) q es are ∙ read_end (known_at g q) ∙ known_end g q)
  where
    read_row : (x : Option VersionValue) → option_and_then (λ x. x.row) x ≡ row_of x
    read_row None = refl
    read_row (Some v) = refl

    read_end : (x : Option VersionValue) → option_and_then (λ x. x.died) x ≡ died_of x
    read_end None = refl
    read_end (Some v) = refl
