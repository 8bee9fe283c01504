-- Facts that are joined to versions, one after the other.
use Rattle.std.proofs.Common.{◌≡◌, refl, sym, ap, ◌∙◌, subst, ℕ, zero, suc, ◌+◌, ◌-◌, ◌<◌, true, false, cond, ◌&&◌, ◌==◌, nat_cmp, Option, option_map, Some, None, List, [], ◌∷◌, ◌++◌, append_assoc, take, set, get_or, length, is_eq, is_lt, Ordering, Less, Equal, Greater, T, Result, Ok, Err, true≢false, arith}
use Rattle.std.proofs.lemmas.List.{take_more, take_all, length-append}
use Rattle.std.specs.List.{slice_get}
use Rattle.std.specs.List.Sorted.{IsSortedByKey}
use Rattle.std.specs.Cmp.{tied_itself}
use Rattle.std.specs.Ordering.{eq_by_cmp, ordering_reverse, ordering_then}
use Rattle.std.specs.FinMap.{find, is_sorted}
use Rattle.std.specs.FinMap.Entries.{below_all, by_order, put, is_sorted-put}
use Rattle.hk_types.specs.declared.version_key.VersionKey.{VersionKey}
use Rattle.hk_types.specs.declared.faults.Refusal.{Refusal}
use Rattle.hk_log.specs.Versions.{VersionValue}
use Rattle.hk_model.specs.History.Rows.{version_key_cmp}
use Rattle.hk_model.proofs.Replica.Maps.{version_key_total, version_key_same}
use Rattle.hk_model.proofs.Replica.Visible.{T_both, less}
use Rattle.hk_facts.specs.Facts.{put_result}
use Rattle.hk_index.proofs.TagsListed.{tied_numbers}
use Rattle.hk_fragment.specs.Parts.{Known}
use Rattle.hk_delta.specs.Versions.{FactOn, with_made, joined_to, last_version, IsNotBefore}
use Rattle.hk_delta.proofs.FactsInTurn.{all_joined, stays_refused}

-- ---- the last version of a rising list

before_last : (k : VersionKey) (front : List Known) (e : Known) → T (below_all version_key_cmp k (front ++ e ∷ [])) → version_key_cmp k e.0 ≡ Less
before_last k [] e h = less (version_key_cmp k e.0) (T_both _ _ h).0
before_last k (f ∷ front) e h = before_last k front e (T_both (is_lt (version_key_cmp k f.0)) (below_all version_key_cmp k (front ++ e ∷ [])) h).1

-- a version that does not come before the last comes behind those before it
behind : (k u v : VersionKey) → version_key_cmp k u ≡ Less → is_lt (version_key_cmp v u) ≡ false → version_key_cmp v k ≡ Greater
behind k u v below after = by (version_key_cmp v u) refl after
  where
    by : (o : Ordering) → version_key_cmp v u ≡ o → is_lt o ≡ false → version_key_cmp v k ≡ Greater
    by Less e n = absurd (true≢false n)
    by Equal e n = ap (λ w. version_key_cmp w k) (version_key_same v u e) ∙ version_key_total.antisymm u k ∙ ap ordering_reverse below
    by Greater e n = version_key_total.antisymm v k ∙ ap ordering_reverse (version_key_total.trans k u v below (version_key_total.antisymm u v ∙ ap ordering_reverse e))

module _ (e : Known) (v : VersionKey) (after : is_lt (version_key_cmp v e.0) ≡ false) where
  find_last : (front : List Known) → T (is_sorted version_key_cmp (front ++ e ∷ [])) → find version_key_cmp v (front ++ e ∷ []) ≡ find version_key_cmp v (e ∷ [])
  find_last [] s = refl
  find_last (f ∷ front) s =
      let both = T_both (below_all version_key_cmp f.0 (front ++ e ∷ [])) (is_sorted version_key_cmp (front ++ e ∷ [])) s in
      ap (λ o. cond (is_eq o) (Some f.1) (find version_key_cmp v (front ++ e ∷ []))) (behind f.0 e.0 v (before_last f.0 front e both.0) after) ∙ find_last front both.1

  put_last : (x : VersionValue) (front : List Known) → T (is_sorted version_key_cmp (front ++ e ∷ [])) → put version_key_cmp v x (front ++ e ∷ []) ≡ front ++ put version_key_cmp v x (e ∷ [])
  put_last x [] s = refl
  put_last x (f ∷ front) s =
      let both = T_both (below_all version_key_cmp f.0 (front ++ e ∷ [])) (is_sorted version_key_cmp (front ++ e ∷ [])) s in
      ap (λ o. by_order o ((v, x) ∷ f ∷ front ++ e ∷ []) ((f.0, x) ∷ front ++ e ∷ []) (f ∷ put version_key_cmp v x (front ++ e ∷ []))) (behind f.0 e.0 v (before_last f.0 front e both.0) after)
      ∙ ap (λ es. f ∷ es) (put_last x front both.1)

-- what is put in beside what is found there
made : (es : List Known) (s : FactOn) (o : Option VersionValue) (x : VersionValue) (fs : List Known) → find version_key_cmp s.0 es ≡ o → put_result s.1 o ≡ Ok x → put version_key_cmp s.0 x es ≡ fs → joined_to es s ≡ Ok fs
made es s o x fs is put new = ap (with_made s.0 es) (ap (put_result s.1) is ∙ put) ∙ ap Ok new

-- ---- the list by its end

ended : (es : List Known) (i : ℕ) (e : Known) → i + 1 ≡ length es → e ≡ get_or es i e → es ≡ take i es ++ e ∷ []
ended es i e long is = sym (ap (λ n. take n es) long ∙ take_all (length es) es (omega arith)) ∙ take_more es i e (omega (arith, long)) ∙ ap (λ y. take i es ++ y ∷ []) (sym is)

set_last : (front : List Known) (e f : Known) (i : ℕ) → i + 1 ≡ length (front ++ e ∷ []) → set (front ++ e ∷ []) i f ≡ front ++ f ∷ []
set_last [] e f zero long = refl
set_last [] e f (suc i) long = absurd (omega (arith, long))
set_last (g ∷ front) e f zero long = absurd (none front (omega (arith, long)))
  where
    none : (front : List Known) → length (front ++ e ∷ []) ≡ 0 → ⊥
    none [] z = omega (arith, z)
    none (g ∷ front) z = omega (arith, z)
set_last (g ∷ front) e f (suc i) long = ap (λ es. g ∷ es) (set_last front e f i (omega (arith, long)))

at_end : (front : List Known) (e : Known) → slice_get (front ++ e ∷ []) (length front) ≡ Some e
at_end [] e = refl
at_end (f ∷ front) e = at_end front e

last_at : (front : List Known) (e : Known) → last_version (front ++ e ∷ []) ≡ Some e.0
last_at front e =
    let long : length (front ++ e ∷ []) - 1 ≡ length front = omega (arith, length-append front (e ∷ [])) in
    ap (λ n. option_map (λ (k : Known). k.0) (slice_get (front ++ e ∷ []) n)) long ∙ ap (option_map (λ (k : Known). k.0)) (at_end front e)

pub last_pushed : (es fs : List Known) (v : VersionKey) (x : VersionValue) → fs ≡ es ++ (v, x) ∷ [] → last_version fs ≡ Some v
last_pushed es fs v x is = ap last_version is ∙ last_at es (v, x)

-- ---- whether a version is the last one

three_ties : (a b c : Ordering) → (is_eq a && (is_eq b && is_eq c)) ≡ is_eq (ordering_then a (ordering_then b c))
three_ties Less b c = refl
three_ties Equal Less c = refl
three_ties Equal Equal c = refl
three_ties Equal Greater c = refl
three_ties Greater b c = refl

pub same_keys : (a b : VersionKey) → ((a.table == b.table) && ((a.key == b.key) && (a.born == b.born))) ≡ eq_by_cmp version_key_cmp a b
same_keys a b =
    (λ i. tied_numbers a.table b.table i && (tied_numbers a.key b.key i && tied_numbers a.born b.born i))
    ∙ three_ties (nat_cmp a.table b.table) (nat_cmp a.key b.key) (nat_cmp a.born b.born)

-- a version that neither is another nor comes before it comes behind it
comes_behind : (u v : VersionKey) → is_lt (version_key_cmp v u) ≡ false → eq_by_cmp version_key_cmp u v ≡ false → version_key_cmp v u ≡ Greater
comes_behind u v after other = by (version_key_cmp v u) refl after
  where
    by : (o : Ordering) → version_key_cmp v u ≡ o → is_lt o ≡ false → version_key_cmp v u ≡ Greater
    by Less e n = absurd (true≢false n)
    by Equal e n = absurd (true≢false (sym (ap is_eq (version_key_total.antisymm u v ∙ ap ordering_reverse e)) ∙ other))
    by Greater e n = e

pub none_there : (n : ℕ) → (0 < n → false ≡ true) → n ≡ 0
none_there zero h = refl
none_there (suc n) h = absurd (true≢false (sym (h (omega arith))))

-- ---- a fact that is joined

module _ (es : List Known) (i : ℕ) (e : Known) (s : FactOn) (x : VersionValue) (rising : T (is_sorted version_key_cmp es)) (long : i + 1 ≡ length es) (is : e ≡ get_or es i e) (same : e.0 ≡ s.0) where
  there : es ≡ take i es ++ e ∷ []
  there = ended es i e long is

  after : is_lt (version_key_cmp s.0 e.0) ≡ false
  after = ap is_lt (ap (version_key_cmp s.0) same ∙ tied_itself version_key_total s.0)

  found : find version_key_cmp s.0 es ≡ Some e.1
  found =
      ap (find version_key_cmp s.0) there ∙ find_last e s.0 after (take i es) (subst (λ l. T (is_sorted version_key_cmp l)) there rising)
      ∙ ap (λ o. cond (is_eq o) (Some e.1) None) (ap (version_key_cmp s.0) same ∙ tied_itself version_key_total s.0)

  now : put version_key_cmp s.0 x es ≡ set es i (e.0, x)
  now =
      ap (put version_key_cmp s.0 x) there ∙ put_last e s.0 after x (take i es) (subst (λ l. T (is_sorted version_key_cmp l)) there rising)
      ∙ ap (λ o. take i es ++ by_order o ((s.0, x) ∷ e ∷ []) ((e.0, x) ∷ []) (e ∷ (s.0, x) ∷ [])) (ap (version_key_cmp s.0) same ∙ tied_itself version_key_total s.0)
      ∙ sym (ap (λ l. set l i (e.0, x)) there ∙ set_last (take i es) e (e.0, x) i (long ∙ ap length there))

  -- to the last version
  pub joined_last : put_result s.1 (Some e.1) ≡ Ok x → joined_to es s ≡ Ok (set es i (e.0, x))
  joined_last put = made es s (Some e.1) x (set es i (e.0, x)) found put now

  pub refused_last : (why : Refusal) → put_result s.1 (Some e.1) ≡ Err why → joined_to es s ≡ Err why
  refused_last why put = ap (with_made s.0 es) (ap (put_result s.1) found ∙ put)

  pub last_joined : last_version (set es i (e.0, x)) ≡ Some s.0
  last_joined = ap last_version (ap (λ l. set l i (e.0, x)) there ∙ set_last (take i es) e (e.0, x) i (long ∙ ap length there)) ∙ last_at (take i es) (e.0, x) ∙ ap Some same

-- behind the last version
module _ (s : FactOn) (x : VersionValue) (is_put : put_result s.1 None ≡ Ok x) where
  pub joined_first : (es : List Known) → length es ≡ 0 → joined_to es s ≡ Ok (es ++ (s.0, x) ∷ [])
  joined_first [] none = made [] s None x ((s.0, x) ∷ []) refl is_put refl
  joined_first (e ∷ es) none = absurd (omega (arith, none))

  pub joined_behind : (es : List Known) (i : ℕ) (e : Known) → T (is_sorted version_key_cmp es) → i + 1 ≡ length es → e ≡ get_or es i e → IsNotBefore (last_version es) s.0 → eq_by_cmp version_key_cmp e.0 s.0 ≡ false → joined_to es s ≡ Ok (es ++ (s.0, x) ∷ [])
  joined_behind es i e rising long is next other =
      let there = ended es i e long is in
      let sorted = subst (λ l. T (is_sorted version_key_cmp l)) there rising in
      let after : is_lt (version_key_cmp s.0 e.0) ≡ false = subst (λ o. IsNotBefore o s.0) (ap last_version there ∙ last_at (take i es) e) next in
      let greater = comes_behind e.0 s.0 after other in
      made es s None x (es ++ (s.0, x) ∷ [])
      (ap (find version_key_cmp s.0) there ∙ find_last e s.0 after (take i es) sorted ∙ ap (λ o. cond (is_eq o) (Some e.1) None) greater)
      is_put
      (ap (put version_key_cmp s.0 x) there ∙ put_last e s.0 after x (take i es) sorted
      ∙ ap (λ o. take i es ++ by_order o ((s.0, x) ∷ e ∷ []) ((e.0, x) ∷ []) (e ∷ (s.0, x) ∷ [])) greater
      ∙ sym (append_assoc (take i es) (e ∷ []) ((s.0, x) ∷ [])) ∙ ap (λ l. l ++ (s.0, x) ∷ []) (sym there))

-- ---- facts whose versions do not fall

-- none of the facts comes before the one before it, nor the first before this version
abbrev pub Follow : Option VersionKey → List FactOn → Type 0
Follow last [] = Unit {0}
Follow last (s ∷ ss) = IsNotBefore last s.0 × Follow (Some s.0) ss

follow_on : (s : FactOn) (ss : List FactOn) → IsSortedByKey (λ (e : FactOn). e.0) version_key_cmp (s ∷ ss) → Follow (Some s.0) ss
follow_on s [] sorted = tt
follow_on s (t ∷ ss) sorted = (
  sorted zero s (omega arith) (omega arith),
  follow_on t ss (λ k d low high.
      let one : suc k + 1 ≡ suc (k + 1) = omega arith in
      subst (λ n. is_lt (version_key_cmp (get_or (s ∷ t ∷ ss) n d).0 (get_or (t ∷ ss) k d).0) ≡ false) one (sorted (suc k) d (omega arith) (omega arith))),
)

pub sorted_follow : (ss : List FactOn) → IsSortedByKey (λ (e : FactOn). e.0) version_key_cmp ss → Follow None ss
sorted_follow [] sorted = tt
sorted_follow (s ∷ ss) sorted = (tt, follow_on s ss sorted)

-- one fact more leaves the list rising
pub still_rising : (es : List Known) (s : FactOn) (fs : List Known) → T (is_sorted version_key_cmp es) → joined_to es s ≡ Ok fs → T (is_sorted version_key_cmp fs)
still_rising es s fs rising is = by (put_result s.1 (find version_key_cmp s.0 es)) is
  where
    by : (r : Result VersionValue Refusal) → with_made s.0 es r ≡ Ok fs → T (is_sorted version_key_cmp fs)
    by (Ok x) e = let same : put version_key_cmp s.0 x es ≡ fs = cc in subst (λ l. T (is_sorted version_key_cmp l)) same (is_sorted-put version_key_cmp version_key_total s.0 x es rising)
    by (Err why) e = cc

-- ---- a list that is used up

module _ (es : List Known) (s : FactOn) (fs : List Known) (rest more : List FactOn) (is : rest ≡ s ∷ more) where
  pub still_follow : last_version fs ≡ Some s.0 → Follow (last_version es) rest → Follow (last_version fs) more
  still_follow last follow = subst (λ o. Follow o more) (sym last) (subst (Follow (last_version es)) is follow).1

  pub still_joined : (whole : Result (List Known) Refusal) → joined_to es s ≡ Ok fs → all_joined (Ok es) rest ≡ whole → all_joined (Ok fs) more ≡ whole
  still_joined whole here before = ap (λ r. all_joined r more) (sym here) ∙ ap (all_joined (Ok es)) (sym is) ∙ before

pub refused_here : (es : List Known) (s : FactOn) (rest more : List FactOn) (whole : Result (List Known) Refusal) (why : Refusal) → rest ≡ s ∷ more → joined_to es s ≡ Err why → all_joined (Ok es) rest ≡ whole → whole ≡ Err why
refused_here es s rest more whole why is here before = sym before ∙ ap (all_joined (Ok es)) is ∙ ap (λ r. all_joined r more) here ∙ stays_refused why more

pub used_up : (es : List Known) (rest : List FactOn) (whole : Result (List Known) Refusal) → length rest ≡ 0 → all_joined (Ok es) rest ≡ whole → whole ≡ Ok es
used_up es [] whole none is = sym is
used_up es (s ∷ rest) whole none is = absurd (omega (arith, none))
