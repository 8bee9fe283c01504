-- The versions that are looked for by time.
use Rattle.std.proofs.Common.{◌≡◌, refl, sym, ap, ◌∙◌, subst, ℕ, Bool, true, false, cond, ◌||◌, ◌&&◌, T, Option, Some, None, List, [], ◌∷◌, ◌++◌, map, filter, nat_cmp, nat_le, nat_lt, ◌<◌, is_eq, is_lt, Ordering, Less, Equal, Greater, ◌⊎◌, inl, inr, Bor, option_map, Result, Ok, Err, arith}
use Rattle.std.proofs.lemmas.Bool.Decides.{nat_tests}
use Rattle.std.proofs.lemmas.List.{append_assoc, append-nil, map_push}
use Rattle.std.proofs.lemmas.List.Elements.{filter-append}
use Rattle.std.specs.List.{AllByRecursion}
use Rattle.std.specs.List.Sorted.{IsStrictlySortedBy}
use Rattle.std.specs.Cmp.{Equal-is}
use Rattle.std.specs.FinMap as finmap
use Rattle.std.specs.FinMap.{find, is_sorted}
use Rattle.std.specs.FinMap.Entries.{below_all}
use Rattle.std.specs.FinSet as set
use Rattle.std.specs.Option.{is_some, option_and_then, IfSome}
use Rattle.std.specs.Result.{IfOk, OnOk}
use Rattle.std.specs.Ordering.{eq_by_cmp}
use Rattle.hk_types.specs.Values.{RowValue}
use Rattle.hk_types.specs.declared.version_key.VersionKey.{VersionKey}
use Rattle.hk_log.specs.Versions.{VersionValue}
use Rattle.hk_model.specs.History.Rows.{RowKey, row_key_cmp, row_key_of, version_key_cmp, version_of}
use Rattle.hk_model.proofs.Replica.Maps.{row_key_same, version_key_same}
use Rattle.hk_model.proofs.Replica.Members.{In, In-append}
use Rattle.hk_model.proofs.Replica.Visible.{T_both, any_where}
use Rattle.hk_model.proofs.Replica.Listed.{map_In_pair}
use Rattle.hk_model.specs.Replica.Content.{ended_by}
use Rattle.hk_index.specs.declared.span.Span.{Span}
use Rattle.hk_index.specs.Timed.{StillThere, timed_cmp, has_row, is_among as is_among_rows, is_in_span, is_until, ListsRows}
use Rattle.hk_facts.specs.Chains.{ChainValue, is_after}
use Rattle.hk_facts.specs.Turns.{AreOver, IsOver}
use Rattle.hk_facts.specs.Facts.{died_of, if_known, row_of}
use Rattle.hk_chains.specs.declared.stated.Sought.{Sought}
use Rattle.hk_chains.specs.Drops.{is_among}
use Rattle.hk_chains.specs.Facts.{FactsValue, IsChainAt, IsUnknown, known_at}
use Rattle.hk_chains.specs.Indexed.{AreStated, born_at, died_at, is_stated, passes_at}
use Rattle.hk_chains.specs.Stated.{IsStated, is_sought, sought_among, sought_at, sought_in, sought_known}
use Rattle.hk_chains.specs.Versions.{AreVersions, AreVersionsOf, borrowed, versions_of_row, versions_of_rows}
use Rattle.hk_chains.proofs.WalkedChains.{born_after, chain_done, found_above, itself, whole_chain}
use Rattle.hk_chains.proofs.WalkedRows.{find_in_rows, found_are, rows_sorted}
use Rattle.hk_facts.proofs.StoredTrees.{and_T}
use Rattle.hk_chains.proofs.StoredFacts.{known_end, known_row}
use Rattle.hk_chains.proofs.TaggedRows.{all_In}

abbrev Born : Type 0
Born = ℕ × VersionValue

abbrev Known : Type 0
Known = VersionKey × VersionValue

abbrev Row : Type 0
Row = RowKey × ChainValue

-- ---- those of a list that pass a test

abbrev kept_value : (VersionKey → VersionValue → Bool) → VersionKey → Option VersionValue → Option VersionValue
kept_value p q None = None
kept_value p q (Some w) = cond (p q w) (Some w) None

absent : (k q : VersionKey) (es : List Known) → eq_by_cmp version_key_cmp q k ≡ true → T (below_all version_key_cmp k es) → find version_key_cmp q es ≡ None
absent k q [] same below = refl
absent k q (e ∷ es) same below =
    let both = T_both (is_lt (version_key_cmp k e.0)) (below_all version_key_cmp k es) below in
    ap (λ t. cond t (Some e.1) (find version_key_cmp q es)) (ap (λ v. eq_by_cmp version_key_cmp v e.0) (version_key_same q k ((Equal-is (version_key_cmp q k)).0 same)) ∙ apart (version_key_cmp k e.0) both.0) ∙ absent k q es same both.1
  where
    apart : (o : Ordering) → T (is_lt o) → is_eq o ≡ false
    apart Less t = refl
    apart Equal t = absurd t
    apart Greater t = refl

module _ (p : VersionKey → VersionValue → Bool) where
  abbrev passing : List Known → List Known
  passing es = filter (λ (e : Known). p e.0 e.1) es

  below_passing : (k : VersionKey) (es : List Known) → T (below_all version_key_cmp k es) → T (below_all version_key_cmp k (passing es))
  below_passing k [] t = tt
  below_passing k (e ∷ es) t = by (below_passing k es both.1) (p e.0 e.1)
    where
      both : T (is_lt (version_key_cmp k e.0)) × T (below_all version_key_cmp k es)
      both = T_both (is_lt (version_key_cmp k e.0)) (below_all version_key_cmp k es) t

      by : T (below_all version_key_cmp k (passing es)) → (b : Bool) → T (below_all version_key_cmp k (cond b (e ∷ passing es) (passing es)))
      by others true = and_T (is_lt (version_key_cmp k e.0)) (below_all version_key_cmp k (passing es)) both.0 others
      by others false = others

  sorted_passing : (es : List Known) → T (is_sorted version_key_cmp es) → T (is_sorted version_key_cmp (passing es))
  sorted_passing [] t = tt
  sorted_passing (e ∷ es) t = by (sorted_passing es both.1) (p e.0 e.1)
    where
      both : T (below_all version_key_cmp e.0 es) × T (is_sorted version_key_cmp es)
      both = T_both (below_all version_key_cmp e.0 es) (is_sorted version_key_cmp es) t

      by : T (is_sorted version_key_cmp (passing es)) → (b : Bool) → T (is_sorted version_key_cmp (cond b (e ∷ passing es) (passing es)))
      by others true = and_T (below_all version_key_cmp e.0 (passing es)) (is_sorted version_key_cmp (passing es)) (below_passing e.0 es both.0) others
      by others false = others

  find_passing : (q : VersionKey) (es : List Known) → T (is_sorted version_key_cmp es) → find version_key_cmp q (passing es) ≡ kept_value p q (find version_key_cmp q es)
  find_passing q [] t = refl
  find_passing q (e ∷ es) t = by (p e.0 e.1) refl (eq_by_cmp version_key_cmp q e.0) refl (find_passing q es both.1)
    where
      both : T (below_all version_key_cmp e.0 es) × T (is_sorted version_key_cmp es)
      both = T_both (below_all version_key_cmp e.0 es) (is_sorted version_key_cmp es) t

      same : eq_by_cmp version_key_cmp q e.0 ≡ true → q ≡ e.0
      same g = version_key_same q e.0 ((Equal-is (version_key_cmp q e.0)).0 g)

      by : (a : Bool) → p e.0 e.1 ≡ a → (b : Bool) → eq_by_cmp version_key_cmp q e.0 ≡ b → find version_key_cmp q (passing es) ≡ kept_value p q (find version_key_cmp q es)
          → find version_key_cmp q (cond a (e ∷ passing es) (passing es)) ≡ kept_value p q (cond b (Some e.1) (find version_key_cmp q es))
      by true f true g rest = ap (λ t. cond t (Some e.1) (find version_key_cmp q (passing es))) g ∙ sym (ap (λ t. cond t (Some e.1) None) (ap (λ v. p v e.1) (same g) ∙ f))
      by true f false g rest = ap (λ t. cond t (Some e.1) (find version_key_cmp q (passing es))) g ∙ rest
      by false f true g rest = rest ∙ ap (kept_value p q) (absent e.0 q es g both.0) ∙ sym (ap (λ t. cond t (Some e.1) None) (ap (λ v. p v e.1) (same g) ∙ f))
      by false f false g rest = rest

-- the names of a list whose versions are borrowed
pub names_borrowed : (found : List (VersionKey × Bor VersionValue)) → map (λ (e : Known). e.0) (map borrowed found) ≡ map (λ e. e.0) found
names_borrowed [] = refl
names_borrowed (e ∷ found) = ap (λ l. e.0 ∷ l) (names_borrowed found)

-- ---- of some rows

row_of_is : (q : VersionKey) (row : RowKey) → eq_by_cmp row_key_cmp (row_key_of q) row ≡ true → row_key_of q ≡ row
row_of_is q row e = row_key_same (row_key_of q) row ((Equal-is (row_key_cmp (row_key_of q) row)).0 e)

-- rows with their chains, empty where nothing is known
abbrev pub AreChains : FactsValue → List Row → Type 0
AreChains f rows = AllByRecursion (λ (r : Row). IsChainAt f r.0.table r.0.key r.1) rows

sorted_rows : (rows : List Row) → IsStrictlySortedBy row_key_cmp (map (λ (r : Row). r.0) rows) → T (is_sorted row_key_cmp rows)
unfolding IsStrictlySortedBy
sorted_rows [] s = tt
sorted_rows (r ∷ rows) s = and_T (below_all row_key_cmp r.0 rows) (is_sorted row_key_cmp rows) (below r.0 rows s.0) (sorted_rows rows s.1)
  where
    below : (k : RowKey) (rows : List Row) → AllByRecursion (λ y. row_key_cmp k y ≡ Less) (map (λ (r : Row). r.0) rows) → T (below_all row_key_cmp k rows)
    below k [] a = tt
    below k (r ∷ rows) a = and_T (is_lt (row_key_cmp k r.0)) (below_all row_key_cmp k rows) (subst (λ o. T (is_lt o)) (sym a.0) tt) (below k rows a.1)

module _ (f : FactsValue) (q : VersionKey) where
  in_chains : (rows : List Row) → AreChains f rows → option_and_then (λ (c : ChainValue). finmap.get c q.born) (find row_key_cmp (row_key_of q) rows) ≡ cond (is_among_rows (map (λ (r : Row). r.0) rows) (row_key_of q)) (known_at f q) None
  in_chains [] are = refl
  in_chains (r ∷ rows) are = by (eq_by_cmp row_key_cmp (row_key_of q) r.0) refl (in_chains rows are.1)
    where
      by : (b : Bool) → eq_by_cmp row_key_cmp (row_key_of q) r.0 ≡ b → option_and_then (λ (c : ChainValue). finmap.get c q.born) (find row_key_cmp (row_key_of q) rows) ≡ cond (is_among_rows (map (λ (r : Row). r.0) rows) (row_key_of q)) (known_at f q) None
          → option_and_then (λ (c : ChainValue). finmap.get c q.born) (cond b (Some r.1) (find row_key_cmp (row_key_of q) rows)) ≡ cond (b || is_among_rows (map (λ (r : Row). r.0) rows) (row_key_of q)) (known_at f q) None
      by true e rest = are.0 q.born ∙ ap (known_at f) (λ i. version_of (sym (row_of_is q r.0 e) i) q.born)
      by false e rest = rest

-- what a loop over the rows found: of those that it passed, and their chains
abbrev pub AreFound : FactsValue → Sought → List RowKey → List Known → Type 0
AreFound f sought passed found = (rows : List Row) × (map (λ (r : Row). r.0) rows ≡ passed) × AreChains f rows × (found ≡ filter (λ (e : Known). is_sought sought e.0.born e.1) (versions_of_rows rows))

module _ (f : FactsValue) (sought : Sought) where
  pub none_found : (found : List Known) → found ≡ [] → AreFound f sought [] found
  none_found found is = ([], refl, tt, is)

  chain_more : (rows : List Row) (r : Row) → AreChains f rows → IsChainAt f r.0.table r.0.key r.1 → AreChains f (rows ++ r ∷ [])
  chain_more [] r are one = (one, tt)
  chain_more (x ∷ rows) r are one = (are.0, chain_more rows r are.1 one)

  rows_more : (rows : List Row) (r : Row) → versions_of_rows (rows ++ r ∷ []) ≡ versions_of_rows rows ++ versions_of_row r.0 (finmap.entries r.1)
  rows_more [] r = append-nil (versions_of_row r.0 (finmap.entries r.1))
  rows_more (x ∷ rows) r = ap (λ l. versions_of_row x.0 (finmap.entries x.1) ++ l) (rows_more rows r) ∙ sym (append_assoc (versions_of_row x.0 (finmap.entries x.1)) (versions_of_rows rows) (versions_of_row r.0 (finmap.entries r.1)))

  -- a row more, with its chain
  pub more_found : (passed more : List RowKey) (row : RowKey) (chain : ChainValue) (found new : List Known) → more ≡ passed ++ row ∷ [] → IsChainAt f row.table row.key chain → new ≡ found ++ sought_in row sought (finmap.entries chain)
      → AreFound f sought passed found → AreFound f sought more new
  more_found passed more row chain found new is_more at is before = (
    before.0 ++ (row, chain) ∷ [],
    map_push (λ (r : Row). r.0) before.0 (row, chain) ∙ ap (λ l. l ++ row ∷ []) before.1 ∙ sym is_more,
    chain_more before.0 (row, chain) before.2 at,
    is ∙ ap (λ l. l ++ sought_in row sought (finmap.entries chain)) before.3
        ∙ sym (ap (filter test) (rows_more before.0 (row, chain)) ∙ filter-append test (versions_of_rows before.0) (versions_of_row row (finmap.entries chain))),
  )
    where
      test : Known → Bool
      test e = is_sought sought e.0.born e.1

  -- a row more of which nothing is known
  pub unknown_found : (passed more : List RowKey) (row : RowKey) (found : List Known) → more ≡ passed ++ row ∷ [] → IsUnknown f row.table row.key → AreFound f sought passed found → AreFound f sought more found
  unknown_found passed more row found is_more none before =
      more_found passed more row finmap.empty found found is_more (λ born. finmap.get-empty nat_cmp born ∙ sym (none born)) (sym (ap (λ (es : List Born). found ++ sought_in row sought es) nothing ∙ append-nil found)) before
    where
      nothing : finmap.entries {K = ℕ} {X = VersionValue} {R = nat_cmp} finmap.empty ≡ []
      nothing = sym (whole_chain (finmap.entries finmap.empty)) ∙ chain_done finmap.empty None (λ b _. finmap.get-empty nat_cmp b)

  -- once all are passed
  pub all_found : (rows : List RowKey) (passed : List RowKey) (found : List Known) → passed ≡ rows → IsStrictlySortedBy row_key_cmp rows → AreFound f sought passed found → AreVersionsOf f (sought_among f sought rows) found
  all_found rows passed found all rising are = found_are f (sought_among f sought rows) found (subst (λ (es : List Known). T (is_sorted version_key_cmp es)) (sym are.3) (sorted_passing test (versions_of_rows are.0) whole)) (λ q.
      ap (find version_key_cmp q) are.3
      ∙ find_passing test q (versions_of_rows are.0) whole
      ∙ ap (kept_value test q) (find_in_rows q are.0 sorted ∙ in_chains f q are.0 are.2 ∙ ap (λ l. cond (is_among_rows l (row_key_of q)) (known_at f q) None) (are.1 ∙ all))
      ∙ by q (is_among_rows rows (row_key_of q)) (known_at f q))
    where
      test : VersionKey → VersionValue → Bool
      test v known = is_sought sought v.born known

      sorted : T (is_sorted row_key_cmp are.0)
      sorted = sorted_rows are.0 (subst (IsStrictlySortedBy row_key_cmp) (sym (are.1 ∙ all)) rising)

      whole : T (is_sorted version_key_cmp (versions_of_rows are.0))
      whole = rows_sorted are.0 sorted

      by : (q : VersionKey) (b : Bool) (o : Option VersionValue) → kept_value test q (cond b o None) ≡ cond (b && sought_known sought q.born o) o None
      by q true None = refl
      by q true (Some w) = refl
      by q false o = refl

  -- ---- of all rows

  parts : (q : VersionKey) → sought_at f sought q ≡ ((sought.births && (is_some (finmap.get f.rows q) && is_in_span sought.span q.born)) || passes_at (is_in_span sought.span) (finmap.get f.ends q))
  parts q = by sought.births (finmap.get f.rows q) (finmap.get f.ends q)
    where
      by : (b : Bool) (r : Option RowValue) (d : Option ℕ) → sought_known (record { span = sought.span; births = b }) q.born (if_known (record { row = r; died = d })) ≡ ((b && (is_some r && is_in_span sought.span q.born)) || passes_at (is_in_span sought.span) d)
      by true None None = refl
      by false None None = refl
      by b None (Some d) = refl
      by b (Some r) d = refl

  -- the rows that are listed have all that is looked for
  listed : (index : set.FinSet timed_cmp) (rows : List RowKey) → AreStated f index → ListsRows index sought.span rows → (q : VersionKey) → sought_at f sought q ≡ true → is_among_rows rows (row_key_of q) ≡ true
  listed index rows are lists q e = by sought.births (finmap.get f.rows q) refl (finmap.get f.ends q) refl (is_in_span sought.span q.born) refl (sym (parts q) ∙ e)
    where
      ended : (o : Option ℕ) → finmap.get f.ends q ≡ o → passes_at (is_in_span sought.span) o ≡ true → is_among_rows rows (row_key_of q) ≡ true
      ended None at e = cc
      ended (Some d) at e = lists.all d (row_key_of q) e (are.dead q d at)

      by : (b : Bool) (r : Option RowValue) → finmap.get f.rows q ≡ r → (d : Option ℕ) → finmap.get f.ends q ≡ d → (s : Bool) → is_in_span sought.span q.born ≡ s → ((b && (is_some r && s)) || passes_at (is_in_span sought.span) d) ≡ true → is_among_rows rows (row_key_of q) ≡ true
      by true (Some r) at d dead true is e = lists.all q.born (row_key_of q) is (are.born q r at)
      by true (Some r) at d dead false is e = ended d dead e
      by true None at d dead s is e = ended d dead e
      by false r at d dead s is e = ended d dead e

  -- where the rows that are listed are those of the span
  pub all_sought : (index : set.FinSet timed_cmp) (rows : List RowKey) (found : List Known) → AreStated f index → ListsRows index sought.span rows → AreVersionsOf f (sought_among f sought rows) found → AreVersionsOf f (sought_at f sought) found
  all_sought index rows found are lists of = record {
    known = of.known;
    all = λ q. ap (λ b. b && is_some (known_at f q)) (by q (sought_at f sought q) refl) ∙ of.all q;
    rising = of.rising;
  }
    where
      by : (q : VersionKey) (b : Bool) → sought_at f sought q ≡ b → b ≡ (is_among_rows rows (row_key_of q) && b)
      by q true e = ap (λ a. a && true) (sym (listed index rows are lists q e))
      by q false e = out (is_among_rows rows (row_key_of q))
        where
          out : (a : Bool) → false ≡ (a && false)
          out true = refl
          out false = refl

  -- of what is looked for something is known
  known_sought : (q : VersionKey) → (sought_at f sought q && is_some (known_at f q)) ≡ sought_at f sought q
  known_sought q = by (known_at f q)
    where
      by : (o : Option VersionValue) → (sought_known sought q.born o && is_some o) ≡ sought_known sought q.born o
      by None = refl
      by (Some w) = keeps (is_sought sought q.born w)
        where
          keeps : (b : Bool) → (b && true) ≡ b
          keeps true = refl
          keeps false = refl

  pub among_sought : (found : List (VersionKey × Bor VersionValue)) (vs : List VersionKey) → AreVersionsOf f (sought_at f sought) (map borrowed found) → vs ≡ map (λ e. e.0) found → (q : VersionKey) → is_among vs q ≡ sought_at f sought q
  among_sought found vs are is q = ap (λ l. is_among l q) (is ∙ sym (names_borrowed found)) ∙ sym (are.all q) ∙ known_sought q

-- ---- what is looked for

pub ends_sought : (f : FactsValue) (sought : Sought) (q : VersionKey) → sought.births ≡ false → sought_at f sought q ≡ passes_at (is_in_span sought.span) (died_at f q)
ends_sought f sought q none = parts f sought q ∙ ap (λ b. (b && (is_some (finmap.get f.rows q) && is_in_span sought.span q.born)) || passes_at (is_in_span sought.span) (finmap.get f.ends q)) none

pub stated_sought : (f : FactsValue) (sought : Sought) (q : VersionKey) → sought.births ≡ true → sought_at f sought q ≡ is_stated f (is_in_span sought.span) q
stated_sought f sought q births =
    parts f sought q ∙ ap (λ b. (b && (is_some (finmap.get f.rows q) && is_in_span sought.span q.born)) || passes_at (is_in_span sought.span) (finmap.get f.ends q)) births
    ∙ ap (λ b. b || passes_at (is_in_span sought.span) (finmap.get f.ends q)) (by (finmap.get f.rows q))
  where
    by : (r : Option RowValue) → (is_some r && is_in_span sought.span q.born) ≡ passes_at (is_in_span sought.span) (option_map (λ row. q.born) r)
    by None = refl
    by (Some r) = refl

-- what holds of the set of a list holds of the set that is made of it
pub in_set : {E : Type 0} {f : VersionKey → Bool} (vs : List VersionKey) (r : Result (set.FinSet version_key_cmp) E) → IfOk r (λ index. index ≡ set.from_list vs) → ((q : VersionKey) → set.contains (set.from_list {R = version_key_cmp} vs) q ≡ f q) → IfOk r (λ index. (q : VersionKey) → set.contains index q ≡ f q)
in_set vs (Ok index) is all = λ q. ap (λ (s : set.FinSet version_key_cmp). set.contains s q) is ∙ all q
in_set vs (Err why) is all = tt

-- the times from 0 up to one
pub from_zero : (until n t : ℕ) → n ≡ until → (nat_le 0 t && nat_le t n) ≡ nat_le t until
from_zero until n t is = grind (arith, nat_tests)

-- by tests that are alike
pub stated_alike : (f : FactsValue) (p r : ℕ → Bool) → ((t : ℕ) → p t ≡ r t) → (q : VersionKey) → is_stated f p q ≡ is_stated f r q
stated_alike f p r alike q = (λ i. at (born_at f q) i || at (died_at f q) i)
  where
    at : (o : Option ℕ) → passes_at p o ≡ passes_at r o
    at None = refl
    at (Some t) = alike t

-- the rows that are listed for the ends up to h have all versions that ended by then
pub ended_rows : (f : FactsValue) (index : set.FinSet timed_cmp) (span : Span) (rows : List RowKey) → AreStated f index → ListsRows index span rows → (h : ℕ) (q : VersionKey) → ended_by f.ends h q ≡ passes_at (is_in_span span) (died_at f q) → ended_by f.ends h q ≡ true → is_among_rows rows (row_key_of q) ≡ true
ended_rows f index span rows are lists h q is e = by (finmap.get f.ends q) refl (sym is ∙ e)
  where
    by : (o : Option ℕ) → finmap.get f.ends q ≡ o → passes_at (is_in_span span) o ≡ true → is_among_rows rows (row_key_of q) ≡ true
    by None at e = cc
    by (Some d) at e = lists.all d (row_key_of q) e (are.dead q d at)

-- ---- the rows of all versions

-- the row of each of these versions is there with its times
abbrev pub AreRowsStated : set.FinSet timed_cmp → List Known → Type 0
AreRowsStated index es = (e : Known) → In e es → IsStated e.0 e.1 index

pub one_more_stated : (old new : set.FinSet timed_cmp) (es : List Known) (e : Known) → StillThere old new → IsStated e.0 e.1 new → AreRowsStated old es → AreRowsStated new (es ++ e ∷ [])
one_more_stated old new es e still here before d i = by (In-append d es (e ∷ []) i)
  where
    by : In d es ⊎ In d (e ∷ []) → IsStated d.0 d.1 new
    by (inl j) = record { born = λ row at. still d.0.born (row_key_of d.0) ((before d j).born row at); dead = λ died at. still died (row_key_of d.0) ((before d j).dead died at) }
    by (inr (inl same)) = subst (λ (x : Known). IsStated x.0 x.1 new) (sym same) here
    by (inr (inr never)) = absurd never

-- a version of which anything is known is among them
listed_known : (f : FactsValue) (es : List Known) → AreVersions f es → (v : VersionKey) (w : VersionValue) → known_at f v ≡ Some w → In (v, w) es
listed_known f es are v w is =
    let there = any_where (eq_by_cmp version_key_cmp v) (map (λ (e : Known). e.0) es) (sym (are.all v) ∙ ap is_some is) in
    let same : v ≡ there.0 = version_key_same v there.0 ((Equal-is (version_key_cmp v there.0)).0 there.2) in
    let pair = map_In_pair there.0 es there.1 in
    let known : known_at f there.0 ≡ Some pair.0 = all_In (λ (e : Known). known_at f e.0 ≡ Some e.1) es are.known (there.0, pair.0) pair.1 in
    let held : pair.0 ≡ w = one pair.0 w (sym known ∙ ap (known_at f) (sym same) ∙ is) in
    subst (λ (e : Known). In e es) (λ i. (sym same i, held i)) pair.1
  where
    one : (x y : VersionValue) → Some x ≡ Some y → x ≡ y
    one x y e = cc

-- where that holds of all versions
pub all_rows_stated : (f : FactsValue) (index : set.FinSet timed_cmp) (es : List Known) → AreVersions f es → AreRowsStated index es → AreStated f index
all_rows_stated f index es are stated = record {
  born = λ v row at. by_row v row (known_at f v) refl (known_row f v ∙ at);
  dead = λ v died at. by_end v died (known_at f v) refl (known_end f v ∙ at);
}
  where
    by_row : (v : VersionKey) (row : RowValue) (o : Option VersionValue) → known_at f v ≡ o → row_of o ≡ Some row → has_row index v.born (row_key_of v) ≡ true
    by_row v row None is e = cc
    by_row v row (Some w) is e = (stated (v, w) (listed_known f es are v w is)).born row e

    by_end : (v : VersionKey) (died : ℕ) (o : Option VersionValue) → known_at f v ≡ o → died_of o ≡ Some died → has_row index died (row_key_of v) ≡ true
    by_end v died None is e = cc
    by_end v died (Some w) is e = (stated (v, w) (listed_known f es are v w is)).dead died e

-- ---- a loop over the versions of a row

pub one_step : (row : RowKey) (sought : Sought) (found new : List Known) (v : VersionKey) (known : VersionValue) (is : Bool) (old rest : List Born) → old ≡ (v.born, known) ∷ rest → row_key_of v ≡ row → is ≡ is_sought sought v.born known → new ≡ found ++ cond is ((v, known) ∷ []) []
    → new ++ sought_in row sought rest ≡ found ++ sought_in row sought old
one_step row sought found new v known is old rest step of_row test more =
    ap (λ l. l ++ sought_in row sought rest) (more ∙ ap (λ b. found ++ cond b ((v, known) ∷ []) []) test)
    ∙ append_assoc found (cond (is_sought sought v.born known) ((v, known) ∷ []) []) (sought_in row sought rest)
    ∙ ap (λ l. found ++ l) (by (is_sought sought v.born known) ∙ ap (sought_in row sought) (sym step))
  where
    by : (b : Bool) → cond b ((v, known) ∷ []) [] ++ sought_in row sought rest ≡ cond b ((version_of row v.born, known) ∷ sought_in row sought rest) (sought_in row sought rest)
    by true = ap (λ (k : RowKey). (version_of k v.born, known) ∷ sought_in row sought rest) of_row
    by false = refl

-- versions that are over before a span aren't looked for
is_out : (sought : Sought) (born : ℕ) (v : VersionValue) → IsOver sought.span.from born (Some v) → is_sought sought born v ≡ false
is_out sought born v over = (λ i. by_birth sought.births (is_some v.row) i || by_end v.died refl i)
  where
    before : (from t : ℕ) → t < from → nat_le from t ≡ false
    before from t lt = grind (arith, nat_tests)

    out : (t : ℕ) → t < sought.span.from → is_in_span sought.span t ≡ false
    out t lt = ap (λ b. b && is_until sought.span.until t) (before sought.span.from t lt)

    by_birth : (b s : Bool) → (b && (s && is_in_span sought.span born)) ≡ false
    by_birth false s = refl
    by_birth true false = refl
    by_birth true true = out born over.before

    by_end : (d : Option ℕ) → v.died ≡ d → passes_at (is_in_span sought.span) d ≡ false
    by_end None is = refl
    by_end (Some d) is = out d (over.ended d is)

-- what is looked for among the versions behind those that are over is what is looked for among all
passed_over : (row : RowKey) (sought : Sought) (until : Option ℕ) (es : List Born) → ((born : ℕ) (v : VersionValue) → find nat_cmp born es ≡ Some v → is_after until born ≡ false → is_sought sought born v ≡ false) → T (is_sorted nat_cmp es) → sought_in row sought (born_after until es) ≡ sought_in row sought es
passed_over row sought until [] over sorted = refl
passed_over row sought until (e ∷ es) over sorted = by (passed_over row sought until es rest both.1) (is_after until e.0) refl
  where
    both : T (below_all nat_cmp e.0 es) × T (is_sorted nat_cmp es)
    both = T_both (below_all nat_cmp e.0 es) (is_sorted nat_cmp es) sorted

    rest : (born : ℕ) (v : VersionValue) → find nat_cmp born es ≡ Some v → is_after until born ≡ false → is_sought sought born v ≡ false
    rest born v is after = over born v (ap (λ t. cond t (Some e.1) (find nat_cmp born es)) (apart (found_above e.0 born v es both.0 is)) ∙ is) after
      where
        apart : nat_lt e.0 born ≡ true → eq_by_cmp nat_cmp born e.0 ≡ false
        apart lt = grind (arith, nat_tests)

    by : sought_in row sought (born_after until es) ≡ sought_in row sought es → (t : Bool) → is_after until e.0 ≡ t → sought_in row sought (cond t (e ∷ born_after until es) (born_after until es)) ≡ sought_in row sought (e ∷ es)
    by others true is = ap (λ l. cond (is_sought sought e.0 e.1) ((version_of row e.0, e.1) ∷ l) l) others
    by others false is =
        others ∙ sym (ap (λ t. cond t ((version_of row e.0, e.1) ∷ sought_in row sought es) (sought_in row sought es)) (over e.0 e.1 (ap (λ t. cond t (Some e.1) (find nat_cmp e.0 es)) (itself e.0)) is))

pub all_passed_over : (row : RowKey) (sought : Sought) (c : ChainValue) (until : Option ℕ) → AreOver c sought.span.from until → sought_in row sought (born_after until (finmap.entries c)) ≡ sought_in row sought (finmap.entries c)
all_passed_over row sought c until over = passed_over row sought until (finmap.entries c) (λ born v is after. is_out sought born v (subst (IsOver sought.span.from born) (finmap.get-entries c born ∙ is) (over born (ap is_some (finmap.get-entries c born ∙ is)) after))) (finmap.entries_sorted c)

pub no_more : (row : RowKey) (sought : Sought) (found : List Known) (rest : List Born) → rest ≡ [] → found ++ sought_in row sought rest ≡ found
no_more row sought found rest is = ap (λ l. found ++ sought_in row sought l) is ∙ append-nil found

-- what an addition of both leaves
pub both_stated : {X E : Type 0} (v : VersionKey) (known : VersionValue) (index new : set.FinSet timed_cmp) (birth : Option ℕ) → birth ≡ option_map (λ _. v.born) known.row → IfSome birth (λ t. has_row index t (row_key_of v) ≡ true) → StillThere index new → (r : Result X E) → OnOk r (IfSome known.died (λ t. has_row new t (row_key_of v) ≡ true)) → OnOk r (IsStated v known new)
both_stated v known index new birth is born still (Err why) dead = tt
both_stated v known index new birth is born still (Ok x) dead = record {
  born = λ row at. still v.born (row_key_of v) (subst (λ (o : Option ℕ). IfSome o (λ t. has_row index t (row_key_of v) ≡ true)) (is ∙ ap (option_map (λ _. v.born)) at) born);
  dead = λ died at. subst (λ (o : Option ℕ). IfSome o (λ t. has_row new t (row_key_of v) ≡ true)) at dead;
}
