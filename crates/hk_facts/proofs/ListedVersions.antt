-- Versions in a list by rising birth, and the chain that the list is.
use Rattle.std.proofs.Common.{◌≡◌, refl, sym, ap, ◌∙◌, subst, ℕ, zero, suc, ◌+◌, ◌-◌, ◌<◌, ◌≤◌, Bool, true, false, true≢false, cond, not, ◌&&◌, Option, Some, None, option_map, List, [], ◌∷◌, ◌++◌, filter, take, set, get_or, length, ◌==◌, nat_cmp, nat_le, nat_lt, is_lt, Ordering, Less, Equal, Greater, Result, Ok, Err, IfOk, IfErr, ◌⊎◌, inl, inr, arith}
use Rattle.std.proofs.lemmas.Bool.Decides.{nat_tests}
use Rattle.std.proofs.lemmas.Bool.{cases_lt}
use Rattle.std.proofs.lemmas.List.{get_or-map, length-map, length-take, take_more, take_all, get_or-take}
use Rattle.std.proofs.lemmas.Option.{slice_get-get_or, get_or_from_slice_get}
use Rattle.std.proofs.lemmas.List.Sorted.{IsNonDecreasingBy-from_all_adjacent, IsPartitionedBy-leb, searchable_from_sorted}
use Rattle.std.proofs.lemmas.Map.Keys.{IsDistinct-from_sorted, below_from_sorted}
use Rattle.std.proofs.lemmas.Map.Entries.{lookup_from_place, place_from_lookup}
use Rattle.std.specs.Bool.{beq}
use Rattle.std.specs.Option.{is_some, IfSome, MatchOption}
use Rattle.std.specs.Cmp.{nat_cmp_total, eq_by_cmp_equiv}
use Rattle.std.specs.Ordering.{eq_by_cmp, ordering_index}
use Rattle.std.specs.List.{AllByRecursion, AllWithin, slice_get, insert, remove}
use Rattle.std.specs.List.Sorted.{IsStrictlySortedBy, IsNonDecreasingBy, IsPartitionedBy, IsSearchInRange, IsBinarySearchResult}
use Rattle.std.specs.BTreeMap.{is_at}
use Rattle.std.specs.Map.{lookup, keys_of}
use Rattle.std.specs.FinMap as finmap
use Rattle.hk_types.specs.Values.{RowValue}
use Rattle.hk_log.specs.Versions.{VersionValue}
use Rattle.hk_model.specs.Replica.Maps.{or_else}
use Rattle.hk_model.specs.Replica.Content.{at_most}
use Rattle.hk_facts.specs.Listed.{listed, first_only, is_other, if_row, IsPartOf, AreByBirth, StandsAt, FitsAt}
use Rattle.hk_facts.specs.Parted.{both, AreApart, IsParted}
use Rattle.hk_types.specs.declared.faults.Refusal.{Refusal}
use Rattle.hk_facts.specs.declared.bounds.Bounds.{Bounds}
use Rattle.hk_facts.specs.declared.fact.Fact.{Fact}
use Rattle.hk_facts.specs.declared.fact.Part.{Part}
use Rattle.hk_facts.specs.Facts.{died_of, put_result, without, row_of}
use Rattle.hk_facts.specs.Chains.{ChainValue, set_at, put_at, chain_put, chain_forget, chain_until, latest_at, last_where, IsEarliest}
use Rattle.hk_facts.specs.Turns.{AreBounded, AreInTurn, MayBeBorn}
use Rattle.hk_facts.proofs.StoredTrees.{entries_sorted, get_entries, get-set_at, same_at_all, set_at_same, tied_same, tied_self}
use Rattle.hk_facts.proofs.ForgottenParts.{nothing_left}
use Rattle.hk_facts.proofs.DroppedEnds.{until_entries}
use Rattle.hk_facts.proofs.PartedChains.{get_both}
use Rattle.hk_facts.proofs.LastOfList.{has_row, last_where-push}

abbrev pub Entry : Type 0
Entry = ℕ × VersionValue

abbrev tied : ℕ → ℕ → Bool
tied q k = eq_by_cmp nat_cmp q k

-- what a list has at a birth
abbrev pub look : ℕ → List Entry → Option VersionValue
look q es = lookup (is_at (nat_cmp q)) es

less : (a b : ℕ) → a < b → nat_cmp a b ≡ Less
less a b h = grind (arith, nat_tests)

under : (a b : ℕ) → a < b → tied a b ≡ false
under a b h = grind (arith, nat_tests)

over : (a b : ℕ) → b < a → tied a b ≡ false
over a b h = grind (arith, nat_tests)

-- ---- keys in order

all_within : (P : ℕ → Type 0) (es : List Entry) → AllWithin (λ (e : Entry). P e.0) es 0 (length es) → AllByRecursion P (keys_of es)
all_within P [] all = tt
all_within P (e ∷ es) all = (all zero e (omega arith) (omega arith), all_within P es (λ k d low h. all (suc k) d (omega arith) (omega arith)))

all_inserted : (P : ℕ → Type 0) (es : List Entry) (i : ℕ) (e : Entry) → AllByRecursion P (keys_of es) → P e.0 → AllByRecursion P (keys_of (insert es i e))
all_inserted P [] zero e all p = (p, tt)
all_inserted P [] (suc i) e all p = (p, tt)
all_inserted P (x ∷ xs) zero e all p = (p, all)
all_inserted P (x ∷ xs) (suc i) e all p = (all.0, all_inserted P xs i e all.1 p)

all_removed : (P : ℕ → Type 0) (es : List Entry) (i : ℕ) → AllByRecursion P (keys_of es) → AllByRecursion P (keys_of (remove es i))
all_removed P [] zero all = tt
all_removed P [] (suc i) all = tt
all_removed P (x ∷ xs) zero all = all.1
all_removed P (x ∷ xs) (suc i) all = (all.0, all_removed P xs i all.1)

all_filtered : (P : ℕ → Type 0) (p : Entry → Bool) (es : List Entry) → AllByRecursion P (keys_of es) → AllByRecursion P (keys_of (filter p es))
all_filtered P p [] all = tt
all_filtered P p (x ∷ xs) all = elim (p x) as (λ b. AllByRecursion P (keys_of (cond b (x ∷ filter p xs) (filter p xs)))) [
  | true ↦ (all.0, all_filtered P p xs all.1)
  | false ↦ all_filtered P p xs all.1
]

pub sorted_none : AreByBirth []
unfolding IsStrictlySortedBy
sorted_none = tt

pub sorted_one : (e : Entry) → AreByBirth (e ∷ [])
unfolding IsStrictlySortedBy
sorted_one e = (tt, tt)

pub sorted_inserted : (es : List Entry) (i : ℕ) (e : Entry) → AreByBirth es → FitsAt es e.0 i → AreByBirth (insert es i e)
unfolding IsStrictlySortedBy
sorted_inserted [] zero e s fits = (tt, tt)
sorted_inserted [] (suc i) e s fits = (tt, tt)
sorted_inserted (x ∷ xs) zero e s fits = (all_within (λ k. nat_cmp e.0 k ≡ Less) (x ∷ xs) (λ k d low h. less e.0 (get_or (x ∷ xs) k d).0 (fits.1 k d low h)), s)
sorted_inserted (x ∷ xs) (suc i) e s fits = (
  all_inserted (λ k. nat_cmp x.0 k ≡ Less) xs i e s.0 (less x.0 e.0 (fits.0 zero x (omega arith) (omega arith))),
  sorted_inserted xs i e s.1 (λ k d low h. fits.0 (suc k) d (omega arith) (omega arith), λ k d low h. fits.1 (suc k) d (omega arith) (omega arith)),
)

pub sorted_removed : (es : List Entry) (i : ℕ) → AreByBirth es → AreByBirth (remove es i)
unfolding IsStrictlySortedBy
sorted_removed [] zero s = tt
sorted_removed [] (suc i) s = tt
sorted_removed (x ∷ xs) zero s = s.1
sorted_removed (x ∷ xs) (suc i) s = (all_removed (λ k. nat_cmp x.0 k ≡ Less) xs i s.0, sorted_removed xs i s.1)

pub sorted_filtered : (p : Entry → Bool) (es : List Entry) → AreByBirth es → AreByBirth (filter p es)
unfolding IsStrictlySortedBy
sorted_filtered p [] s = tt
sorted_filtered p (x ∷ xs) s = elim (p x) as (λ b. AreByBirth (cond b (x ∷ filter p xs) (filter p xs))) [
  | true ↦ (all_filtered (λ k. nat_cmp x.0 k ≡ Less) p xs s.0, sorted_filtered p xs s.1)
  | false ↦ sorted_filtered p xs s.1
]

pub sorted_same : (es fs : List Entry) → keys_of fs ≡ keys_of es → AreByBirth es → AreByBirth fs
sorted_same es fs same s = subst (λ ks. IsStrictlySortedBy nat_cmp ks) (sym same) s

pub keys_set : (es : List Entry) (i : ℕ) (e : Entry) → StandsAt es e.0 i → keys_of (set es i e) ≡ keys_of es
keys_set [] i e at = absurd (omega (arith, at.0))
keys_set (x ∷ xs) zero e at = ap (λ k. k ∷ keys_of xs) (sym (at.1 x))
keys_set (x ∷ xs) (suc i) e at = ap (λ ks. x.0 ∷ ks) (keys_set xs i e (omega (arith, at.0), λ d. at.1 d))

pub birth_order : (es : List Entry) (i j : ℕ) (d : Entry) → AreByBirth es → i < j → j < length es → (get_or es i d).0 < (get_or es j d).0
birth_order es i j d s l h =
    let long : length (keys_of es) ≡ length es = length-map es (λ (e : Entry). e.0) in
    let keys = below_from_sorted (keys_of es) i j d.0 s l (omega (arith, long, h)) in
    let a = get_or-map (λ (e : Entry). e.0) es i d d.0 (omega arith) in
    let b = get_or-map (λ (e : Entry). e.0) es j d d.0 h in
    omega (arith, keys, a, b)

front_below : (es : List Entry) (born i : ℕ) → AreByBirth es → StandsAt es born i → AllWithin (λ (e : Entry). e.0 < born) es 0 i
front_below es born i s at k d low h = let o = birth_order es k i d s h at.0 in let e = at.1 d in omega (arith, o, e)

back_above : (es : List Entry) (born i : ℕ) → AreByBirth es → StandsAt es born i → AllWithin (λ (e : Entry). born < e.0) es (i + 1) (length es)
back_above es born i s at k d low h = let o = birth_order es i k d s (omega arith) h in let e = at.1 d in omega (arith, o, e)

slice_get_inside : (es : List Entry) (i : ℕ) (e : Entry) → slice_get es i ≡ Some e → i < length es
slice_get_inside [] zero e is = absurd (no_entry e is)
  where
    no_entry : (e : Entry) → ◌≡◌ {A = Option Entry} None (Some e) → ⊥
    no_entry e is = cc
slice_get_inside [] (suc i) e is = absurd (no_entry e is)
  where
    no_entry : (e : Entry) → ◌≡◌ {A = Option Entry} None (Some e) → ⊥
    no_entry e is = cc
slice_get_inside (x ∷ xs) zero e is = omega arith
slice_get_inside (x ∷ xs) (suc i) e is = let h = slice_get_inside xs i e is in omega (arith, h)

get_or_same : (es : List Entry) (i : ℕ) (d e : Entry) → i < length es → get_or es i d ≡ get_or es i e
get_or_same [] i d e h = absurd (omega arith)
get_or_same (x ∷ xs) zero d e h = refl
get_or_same (x ∷ xs) (suc i) d e h = get_or_same xs i d e (omega arith)

le_le : (a b : ℕ) → a ≤ b → b ≤ a → a ≡ b
le_le a b h k = omega arith

no_room : (j i n : ℕ) → i ≤ j → j < n → i ≡ n → ⊥
no_room j i n a b c = absurd (omega arith)

-- ---- look-ups

pub found : (es : List Entry) (born i : ℕ) (d : Entry) → AreByBirth es → StandsAt es born i → finmap.get (listed es) born ≡ Some (get_or es i d).1
found es born i d s at =
    get_entries es born
    ∙ ap (λ k. look k es) (sym (at.1 d))
    ∙ lookup_from_place (eq_by_cmp_equiv nat_cmp_total) es i (get_or es i d).0 (get_or es i d).1 (IsDistinct-from_sorted nat_cmp (keys_of es) s) (slice_get-get_or es i d at.0)

none_tied : (q : ℕ) (es : List Entry) → AllWithin (λ (e : Entry). tied q e.0 ≡ false) es 0 (length es) → look q es ≡ None
none_tied q [] apart = refl
none_tied q (e ∷ es) apart = ap (λ b. cond b (Some e.1) (look q es)) (apart zero e (omega arith) (omega arith)) ∙ none_tied q es (λ k d low h. apart (suc k) d (omega arith) (omega arith))

-- as many versions as the list is long
pub many_listed : (es : List Entry) → AreByBirth es → finmap.len (listed es) ≡ length es
many_listed es s = finmap.len-entries (listed es) ∙ ap length (entries_sorted nat_cmp_total finmap.nat_cmp-IsAntisymmetric es s)

pub below_most : (es : List Entry) (m : ChainValue) (born : ℕ) → AreByBirth es → m ≡ listed es → (finmap.get m born ≡ None → finmap.len m < 32) → finmap.get (listed es) born ≡ None → length es < 32
below_most es m born s is few none = subst (λ n. n < 32) (many_listed es s) (subst (λ n. finmap.get n born ≡ None → finmap.len n < 32) is few none)

pub short : (n : ℕ) (es fs : List Entry) → n ≡ length es → es ≡ fs → length fs ≤ 32 → n ≤ 32
short n es fs long is few = subst (λ k. k ≤ 32) (sym (long ∙ ap length is)) few

pub absent : (es : List Entry) (born i : ℕ) → FitsAt es born i → finmap.get (listed es) born ≡ None
absent es born i fits =
    get_entries es born
    ∙ none_tied born es (λ k d low h. elim (cases_lt k i) [ inl front ↦ over born (get_or es k d).0 (fits.0 k d low front) | inr back ↦ under born (get_or es k d).0 (fits.1 k d back h) ])

-- ---- changes at a birth

passed : (q k x : ℕ) (v : VersionValue) (w o : Option VersionValue) → x < k → cond (tied q x) (Some v) (cond (tied q k) w o) ≡ cond (tied q k) w (cond (tied q x) (Some v) o)
passed q k x v w o h = by (tied q x) (tied q k) refl refl
  where
    differ : tied q x ≡ true → tied q k ≡ true → ⊥
    differ e f = let a = tied_same q x e in let b = tied_same q k f in absurd (omega (arith, a, b, h))

    by : (a b : Bool) → tied q x ≡ a → tied q k ≡ b → cond a (Some v) (cond b w o) ≡ cond b w (cond a (Some v) o)
    by true true e f = absurd (differ e f)
    by true false e f = refl
    by false b e f = refl

look_inserted : (q : ℕ) (es : List Entry) (i : ℕ) (e : Entry) → AllWithin (λ (x : Entry). x.0 < e.0) es 0 i → look q (insert es i e) ≡ cond (tied q e.0) (Some e.1) (look q es)
look_inserted q [] zero e front = refl
look_inserted q [] (suc i) e front = refl
look_inserted q (x ∷ xs) zero e front = refl
look_inserted q (x ∷ xs) (suc i) e front =
    ap (cond (tied q x.0) (Some x.1)) (look_inserted q xs i e (λ k d low h. front (suc k) d (omega arith) (omega arith)))
    ∙ passed q e.0 x.0 x.1 (Some e.1) (look q xs) (front zero x (omega arith) (omega arith))

look_set : (q : ℕ) (es : List Entry) (i : ℕ) (e : Entry) → StandsAt es e.0 i → AllWithin (λ (x : Entry). x.0 < e.0) es 0 i → look q (set es i e) ≡ cond (tied q e.0) (Some e.1) (look q es)
look_set q [] i e at front = absurd (omega (arith, at.0))
look_set q (x ∷ xs) zero e at front = by (tied q e.0) ∙ ap (λ k. cond (tied q e.0) (Some e.1) (cond (tied q k) (Some x.1) (look q xs))) (sym (at.1 x))
  where
    by : (b : Bool) → cond b (Some e.1) (look q xs) ≡ cond b (Some e.1) (cond b (Some x.1) (look q xs))
    by true = refl
    by false = refl
look_set q (x ∷ xs) (suc i) e at front =
    ap (cond (tied q x.0) (Some x.1)) (look_set q xs i e (omega (arith, at.0), λ d. at.1 d) (λ k d low h. front (suc k) d (omega arith) (omega arith)))
    ∙ passed q e.0 x.0 x.1 (Some e.1) (look q xs) (front zero x (omega arith) (omega arith))

look_removed : (q : ℕ) (es : List Entry) (i born : ℕ) → StandsAt es born i → AllWithin (λ (x : Entry). x.0 < born) es 0 i → AllWithin (λ (x : Entry). born < x.0) es (i + 1) (length es) → look q (remove es i) ≡ cond (tied q born) None (look q es)
look_removed q [] i born at front back = absurd (omega (arith, at.0))
look_removed q (x ∷ xs) zero born at front back = by (tied q born) refl ∙ ap (λ k. cond (tied q born) None (cond (tied q k) (Some x.1) (look q xs))) (sym (at.1 x))
  where
    by : (b : Bool) → tied q born ≡ b → look q xs ≡ cond b None (cond b (Some x.1) (look q xs))
    by true e = none_tied q xs (λ k d low h. let a = tied_same q born e in let o = back (suc k) d (omega arith) (omega arith) in under q (get_or xs k d).0 (omega (arith, a, o)))
    by false e = refl
look_removed q (x ∷ xs) (suc i) born at front back =
    ap (cond (tied q x.0) (Some x.1)) (look_removed q xs i born (omega (arith, at.0), λ d. at.1 d) (λ k d low h. front (suc k) d (omega arith) (omega arith)) (λ k d low h. back (suc k) d (omega arith) (omega arith)))
    ∙ passed q born x.0 x.1 None (look q xs) (front zero x (omega arith) (omega arith))

changed : (es fs : List Entry) (k : ℕ) (w : Option VersionValue) → ((q : ℕ) → look q fs ≡ cond (tied q k) w (look q es)) → listed fs ≡ set_at (listed es) k w
changed es fs k w each = same_at_all _ _ (λ q. get_entries fs q ∙ each q ∙ ap (cond (tied q k) w) (sym (get_entries es q)) ∙ sym (get-set_at (listed es) k w q))

pub listed_inserted : (es : List Entry) (i : ℕ) (e : Entry) → FitsAt es e.0 i → listed (insert es i e) ≡ set_at (listed es) e.0 (Some e.1)
listed_inserted es i e fits = changed es (insert es i e) e.0 (Some e.1) (λ q. look_inserted q es i e fits.0)

pub listed_set : (es : List Entry) (i : ℕ) (e : Entry) → AreByBirth es → StandsAt es e.0 i → listed (set es i e) ≡ set_at (listed es) e.0 (Some e.1)
listed_set es i e s at = changed es (set es i e) e.0 (Some e.1) (λ q. look_set q es i e at (front_below es e.0 i s at))

pub listed_removed : (es : List Entry) (i born : ℕ) → AreByBirth es → StandsAt es born i → listed (remove es i) ≡ set_at (listed es) born None
listed_removed es i born s at = changed es (remove es i) born None (λ q. look_removed q es i born at (front_below es born i s at) (back_above es born i s at))

-- ---- where a search ends

times_rise : (es : List Entry) → AreByBirth es → IsNonDecreasingBy (λ (e : Entry). e.0) es
times_rise es s = IsNonDecreasingBy-from_all_adjacent (λ (e : Entry). e.0) es (λ k d h. let o = birth_order es k (k + 1) d s (omega arith) h in omega (arith, o))

searchable : (es : List Entry) (born : ℕ) → AreByBirth es → IsNonDecreasingBy (λ (e : Entry). ordering_index (nat_cmp e.0 born)) es
searchable es born s = searchable_from_sorted nat_cmp_total (λ (e : Entry). e.0) es born (λ k d low h. turned (get_or es (k + 1) d).0 (get_or es k d).0 (birth_order es k (k + 1) d s (omega arith) h))
  where
    turned : (a b : ℕ) → b < a → is_lt (nat_cmp a b) ≡ false
    turned a b h = grind (arith, nat_tests)

pub placed : (es : List Entry) (born : ℕ) (r : Result ℕ ℕ) → AreByBirth es → IsSearchInRange r (length es) → IsBinarySearchResult (λ (e : Entry). nat_cmp e.0 born) es r → IfOk r (StandsAt es born) × IfErr r (FitsAt es born)
placed es born (Ok i) s within found = ((within, λ d. equal (get_or es i d).0 born (found d)), tt)
  where
    equal : (a b : ℕ) → nat_cmp a b ≡ Equal → a ≡ b
    equal a b e = grind (arith, nat_tests)
placed es born (Err i) s within found = let point = found (searchable es born s) in (tt, (λ k d low h. below (get_or es k d).0 born (point.0 k d low h), λ k d low h. above (get_or es k d).0 born (point.1 k d low h)))
  where
    below : (a b : ℕ) → nat_cmp a b ≡ Less → a < b
    below a b e = grind (arith, nat_tests)

    above : (a b : ℕ) → nat_cmp a b ≡ Greater → b < a
    above a b e = grind (arith, nat_tests)

pub up_to : (es : List Entry) (time : ℕ) → AreByBirth es → IsPartitionedBy (λ (e : Entry). nat_le e.0 time) es
up_to es time s = IsPartitionedBy-leb (λ (e : Entry). e.0) es time (times_rise es s)

pub below : (a b : ℕ) → nat_le a b ≡ true → a ≤ b
below a b e = grind (arith, nat_tests)

pub above : (a b : ℕ) → nat_le a b ≡ false → b < a
above a b e = grind (arith, nat_tests)

-- ---- the latest at a time

module _ (p q : Entry → Bool) where
  none_last : (es : List Entry) → AllWithin (λ (e : Entry). p e ≡ false) es 0 (length es) → last_where (λ e. p e && q e) es ≡ None
  none_last [] all = refl
  none_last (x ∷ xs) all = (λ i. or_else (none_last xs (λ k d low h. all (suc k) d (omega arith) (omega arith)) i) (cond (all zero x (omega arith) (omega arith) i && q x) (Some x) None))

  last_front : (es : List Entry) (n : ℕ) → AllWithin (λ (e : Entry). p e ≡ true) es 0 n → AllWithin (λ (e : Entry). p e ≡ false) es n (length es) → last_where (λ e. p e && q e) es ≡ last_where q (take n es)
  last_front [] zero front back = refl
  last_front [] (suc n) front back = refl
  last_front (x ∷ xs) zero front back = none_last (x ∷ xs) back
  last_front (x ∷ xs) (suc n) front back = (λ i. or_else (last_front xs n (λ k d low h. front (suc k) d (omega arith) (omega arith)) (λ k d low h. back (suc k) d (omega arith) (omega arith)) i) (cond (front zero x (omega arith) (omega arith) i && q x) (Some x) None))

pub latest_front : (es : List Entry) (t n : ℕ) → AreByBirth es → AllWithin (λ (e : Entry). e.0 ≤ t) es 0 n → AllWithin (λ (e : Entry). t < e.0) es n (length es) → last_where has_row (take n es) ≡ latest_at (listed es) t
latest_front es t n s front back =
    sym (last_front (λ e. nat_le e.0 t) has_row es n (λ k d low h. passes (get_or es k d).0 t (front k d low h)) (λ k d low h. fails (get_or es k d).0 t (back k d low h)))
    ∙ sym (ap (last_where (λ e. nat_le e.0 t && has_row e)) (entries_sorted nat_cmp_total finmap.nat_cmp-IsAntisymmetric es s))
  where
    passes : (a b : ℕ) → a ≤ b → nat_le a b ≡ true
    passes a b h = grind (arith, nat_tests)

    fails : (a b : ℕ) → b < a → nat_le a b ≡ false
    fails a b h = grind (arith, nat_tests)

module _ (es : List Entry) (n : ℕ) (e : Entry) (is : e ≡ get_or es (n - 1) e) (some : 0 < n) (within : n ≤ length es) where
  split_last : take n es ≡ take (n - 1) es ++ e ∷ []
  split_last =
      let one : n ≡ (n - 1) + 1 = omega arith in
      ap (λ k. take k es) one ∙ take_more es (n - 1) e (omega arith) ∙ ap (λ x. take (n - 1) es ++ x ∷ []) (sym is)

  -- one step back, onto a version with a row
  pub latest_here : is_some e.1.row ≡ true → last_where has_row (take n es) ≡ Some e
  latest_here has = ap (last_where has_row) split_last ∙ last_where-push has_row (take (n - 1) es) e ∙ ap (λ b. cond b (Some e) (last_where has_row (take (n - 1) es))) has

  -- or over one without
  pub latest_before : is_some e.1.row ≡ false → last_where has_row (take n es) ≡ last_where has_row (take (n - 1) es)
  latest_before none = ap (last_where has_row) split_last ∙ last_where-push has_row (take (n - 1) es) e ∙ ap (λ b. cond b (Some e) (last_where has_row (take (n - 1) es))) none

-- ---- the version born next

module _ (es : List Entry) (test : ℕ → Bool) (i : ℕ) (s : AreByBirth es) (front : AllWithin (λ (e : Entry). test e.0 ≡ false) es 0 i) (back : AllWithin (λ (e : Entry). test e.0 ≡ true) es i (length es)) where
  -- a version whose birth passes stands from the place on
  behind : (born : ℕ) (v : VersionValue) → test born ≡ true → finmap.get (listed es) born ≡ Some v → (j : ℕ) × (i ≤ j) × (j < length es) × ((d : Entry) → (get_or es j d).0 ≡ born)
  behind born v t known =
      let place = place_from_lookup (is_at (nat_cmp born)) es v (sym (get_entries es born) ∙ known) in
      let same : born ≡ place.1 = tied_same born place.1 place.3 in
      let key : (d : Entry) → (get_or es place.0 d).0 ≡ born = λ d. ap (λ (e : Entry). e.0) (get_or_from_slice_get es place.0 (place.1, v) d place.2) ∙ sym same in
      let inside : place.0 < length es = slice_get_inside es place.0 (place.1, v) place.2 in
      (place.0, by place.0 key (cases_lt place.0 i), inside, key)
    where
      by : (j : ℕ) → ((d : Entry) → (get_or es j d).0 ≡ born) → (j < i) ⊎ (i ≤ j) → i ≤ j
      by j key (inl before) = absurd (true≢false (sym t ∙ ap test (sym (key (born, v))) ∙ front j (born, v) (omega arith) before))
      by j key (inr after) = after

  pub next_found : (d : Entry) → i < length es → IsEarliest (listed es) test (get_or es i d)
  next_found d inside =
      record {
        known = found es (get_or es i d).0 i d s (inside, λ e. ap (λ (x : Entry). x.0) (get_or_same es i e d inside));
        passes = back i d (omega arith) inside;
        earliest = λ born t there. by born t (finmap.get (listed es) born) refl there;
      }
    where
      by : (born : ℕ) → test born ≡ true → (x : Option VersionValue) → finmap.get (listed es) born ≡ x → is_some x ≡ true → (get_or es i d).0 ≤ born
      by born t None known there = absurd (true≢false (sym there))
      by born t (Some v) known there =
          let b = behind born v t known in
          let place : (i < b.0) ⊎ (b.0 ≤ i) → (get_or es i d).0 ≤ born = λ c. first b.0 b.1 b.2 (b.3 d) c in
          place (cases_lt i b.0)
        where
          first : (j : ℕ) → i ≤ j → j < length es → (get_or es j d).0 ≡ born → (i < j) ⊎ (j ≤ i) → (get_or es i d).0 ≤ born
          first j le within key (inl lt) = let o = birth_order es i j d s lt within in omega (arith, o, key)
          first j le within key (inr ge) = let k = ap (λ n. (get_or es n d).0) (le_le i j le ge) ∙ key in omega (arith, k)

  pub next_none : i ≡ length es → (born : ℕ) → test born ≡ true → finmap.get (listed es) born ≡ None
  next_none all born t = by (finmap.get (listed es) born) refl
    where
      by : (x : Option VersionValue) → finmap.get (listed es) born ≡ x → x ≡ None
      by None known = refl
      by (Some v) known = let b = behind born v t known in absurd (no_room b.0 i (length es) b.1 b.2 all)

  pub found_as : (e : Entry) → e ≡ get_or es i e → i < length es → IsEarliest (listed es) test e
  found_as e is inside = subst (IsEarliest (listed es) test) (sym is) (next_found e inside)

-- ---- what is changed at a place

remove_set : (es : List Entry) (i : ℕ) (e : Entry) → remove (set es i e) i ≡ remove es i
remove_set [] zero e = refl
remove_set [] (suc i) e = refl
remove_set (x ∷ xs) zero e = refl
remove_set (x ∷ xs) (suc i) e = ap (λ es. x ∷ es) (remove_set xs i e)

module _ (es : List Entry) (i born : ℕ) (e : Entry) (s : AreByBirth es) (at : StandsAt es born i) (is : e ≡ get_or es i e) where
  key : e.0 ≡ born
  key = ap (λ (x : Entry). x.0) is ∙ at.1 e

  stands : StandsAt es e.0 i
  stands = (at.0, λ d. at.1 d ∙ sym key)

  pub known : finmap.get (listed es) born ≡ Some e.1
  known = found es born i e s at ∙ ap (λ (x : Entry). Some x.1) (sym is)

  written : (w : VersionValue) → listed (set es i (e.0, w)) ≡ set_at (listed es) born (Some w)
  written w = listed_set es i (e.0, w) s stands ∙ ap (λ k. set_at (listed es) k (Some w)) key

  pub keys_stay : (w : VersionValue) → keys_of (set es i (e.0, w)) ≡ keys_of es
  keys_stay w = keys_set es i (e.0, w) stands

  pub joined : (fact : Fact) (w : VersionValue) → put_result fact (Some e.1) ≡ Ok w → chain_put (listed es) born fact ≡ Ok (listed (set es i (e.0, w)))
  joined fact w put = ap (λ x. put_at (listed es) born (put_result fact x)) known ∙ ap (put_at (listed es) born) put ∙ ap Ok (sym (written w))

  pub join_refused : (fact : Fact) (why : Refusal) → put_result fact (Some e.1) ≡ Err why → chain_put (listed es) born fact ≡ Err why
  join_refused fact why put = ap (λ x. put_at (listed es) born (put_result fact x)) known ∙ ap (put_at (listed es) born) put

  pub left_over : (part : Part) (w : VersionValue) → without part (Some e.1) ≡ Some w → listed (set es i (e.0, w)) ≡ chain_forget (listed es) born part
  left_over part w left = written w ∙ ap (set_at (listed es) born) (sym left) ∙ ap (λ x. set_at (listed es) born (without part x)) (sym known)

  pub taken_out : (part : Part) (w : VersionValue) → without part (Some e.1) ≡ None → listed (remove (set es i (e.0, w)) i) ≡ chain_forget (listed es) born part
  taken_out part w gone = ap listed (remove_set es i (e.0, w)) ∙ listed_removed es i born s at ∙ ap (set_at (listed es) born) (sym gone) ∙ ap (λ x. set_at (listed es) born (without part x)) (sym known)

  pub sorted_left : (w : VersionValue) → AreByBirth (set es i (e.0, w))
  sorted_left w = sorted_same es (set es i (e.0, w)) (keys_stay w) s

pub put_in : (es fs : List Entry) (i born : ℕ) (fact : Fact) (w : VersionValue) → FitsAt es born i → put_result fact None ≡ Ok w → fs ≡ insert es i (born, w) → chain_put (listed es) born fact ≡ Ok (listed fs)
put_in es fs i born fact w fits put is =
    ap (λ x. put_at (listed es) born (put_result fact x)) (absent es born i fits)
    ∙ ap (put_at (listed es) born) put
    ∙ ap Ok (sym (ap listed is ∙ listed_inserted es i (born, w) fits))

pub sorted_put_in : (es fs : List Entry) (i born : ℕ) (w : VersionValue) → AreByBirth es → FitsAt es born i → fs ≡ insert es i (born, w) → AreByBirth fs
sorted_put_in es fs i born w s fits is = subst AreByBirth (sym is) (sorted_inserted es i (born, w) s fits)

pub nothing_there : (c : ChainValue) (born : ℕ) (part : Part) → finmap.get c born ≡ None → c ≡ chain_forget c born part
nothing_there c born part none = sym (set_at_same c born (without part (finmap.get c born)) (none ∙ sym (ap (without part) none ∙ nothing_left part)))

pub listed_none : (es : List Entry) → length es ≡ 0 → listed es ≡ finmap.empty
listed_none [] none = refl
listed_none (e ∷ es) none = absurd (omega arith)

pub none_listed : (es : List Entry) → listed es ≡ finmap.empty → length es ≡ 0
none_listed [] none = refl
none_listed (e ∷ es) none = absurd (differ (sym (ap (λ b. cond b (Some e.1) (look e.0 es)) (tied_self e.0)) ∙ sym (get_entries (e ∷ es) e.0) ∙ ap (λ c. finmap.get c e.0) none ∙ finmap.get-empty nat_cmp e.0))
  where
    differ : ◌≡◌ {A = Option VersionValue} (Some e.1) None → ⊥
    differ is = cc

pub sorted_as : (fs es : List Entry) → fs ≡ es → AreByBirth es → AreByBirth fs
sorted_as fs es is s = subst AreByBirth (sym is) s

pub no_entries : (es : List Entry) (n : ℕ) (b : Bool) → n ≡ length es → b ≡ (n == 0) → (b ≡ true → listed es ≡ finmap.empty) × (listed es ≡ finmap.empty → b ≡ true)
no_entries es n b long is = (λ t. listed_none es (sym long ∙ equal n 0 (sym is ∙ t)), λ e. is ∙ same n 0 (long ∙ none_listed es e))
  where
    equal : (a b : ℕ) → (a == b) ≡ true → a ≡ b
    equal a b e = grind (arith, nat_tests)

    same : (a b : ℕ) → a ≡ b → (a == b) ≡ true
    same a b e = grind (arith, nat_tests)

-- ---- at most one version

fits_none : (born : ℕ) → FitsAt [] born 0
fits_none born = (λ k d low h. absurd (omega arith), λ k d low h. absurd (omega arith))

pub no_first : (o : Option Entry) → o ≡ None → first_only o ≡ finmap.empty
no_first o none = ap first_only none

pub only_sorted : (o : Option Entry) (es : List Entry) → MatchOption o (es ≡ []) (λ e. es ≡ e ∷ []) → AreByBirth es
only_sorted None es is = sorted_as es [] is sorted_none
only_sorted (Some e) es is = sorted_as es (e ∷ []) is (sorted_one e)

pub only_empty : (o : Option Entry) (b : Bool) → is_some o ≡ not b → (b ≡ true → first_only o ≡ finmap.empty) × (first_only o ≡ finmap.empty → b ≡ true)
only_empty None b is = (λ t. refl, λ e. flip b is)
  where
    flip : (b : Bool) → false ≡ not b → b ≡ true
    flip true e = refl
    flip false e = absurd (true≢false (sym e))
only_empty (Some e) b is = (λ t. absurd (true≢false (is ∙ ap not t)), λ none. let long = none_listed (e ∷ []) none in absurd (omega (arith, long)))

pub other_absent : (o : Option Entry) (born : ℕ) → is_other o born ≡ true → finmap.get (first_only o) born ≡ None
other_absent None born other = absurd (true≢false (sym other))
other_absent (Some e) born other = get_entries (e ∷ []) born ∙ ap (λ b. cond b (Some e.1) None) (apart e.0 born other)
  where
    apart : (a b : ℕ) → not (a == b) ≡ true → tied b a ≡ false
    apart a b t = grind (arith, nat_tests)

pub put_only : (o : Option Entry) (born : ℕ) (fact : Fact) (w : VersionValue) → o ≡ None → put_result fact None ≡ Ok w → chain_put (first_only o) born fact ≡ Ok (first_only (Some (born, w)))
put_only o born fact w none put = ap (λ x. chain_put (first_only x) born fact) none ∙ put_in [] ((born, w) ∷ []) 0 born fact w (fits_none born) put refl

pub nothing_first : (o : Option Entry) (born : ℕ) → o ≡ None → finmap.get (first_only o) born ≡ None
nothing_first o born none = ap (λ x. finmap.get (first_only x) born) none ∙ finmap.get-empty nat_cmp born

pub only_few : (o : Option Entry) (m : ChainValue) → m ≡ first_only o → finmap.len m < 32
only_few None m is = subst (λ c. finmap.len c < 32) (sym is) (subst (λ n. n < 32) (sym (many_listed [] sorted_none)) (omega arith))
only_few (Some e) m is = subst (λ c. finmap.len c < 32) (sym is) (subst (λ n. n < 32) (sym (many_listed (e ∷ []) (sorted_one e))) (omega arith))

pub only_absent : (o : Option Entry) (born : ℕ) (part : Part) → o ≡ None → first_only o ≡ chain_forget (first_only o) born part
only_absent o born part none = nothing_there (first_only o) born part (nothing_first o born none)

pub only_until_none : (o : Option Entry) (h : ℕ) → o ≡ None → first_only o ≡ chain_until (first_only o) h
only_until_none o h none = ap first_only none ∙ until_entries [] [] h sorted_none refl ∙ ap (λ x. chain_until (first_only x) h) (sym none)

module _ (o : Option Entry) (e : Entry) (is : o ≡ Some e) where
  pub born_then : (born : ℕ) → is_other o born ≡ false → e.0 ≡ born
  born_then born other = same e.0 born (sym (ap (λ x. is_other x born) is) ∙ other)
    where
      same : (a b : ℕ) → not (a == b) ≡ false → a ≡ b
      same a b t = grind (arith, nat_tests)

  pub only_ended : (h : ℕ) → at_most h e.1.died ≡ true → finmap.empty ≡ chain_until (first_only o) h
  only_ended h ended = until_entries (e ∷ []) [] h (sorted_one e) (sym (ap (λ b. cond (not b) (e ∷ []) []) ended)) ∙ ap (λ x. chain_until (first_only x) h) (sym is)

  pub only_stays : (h : ℕ) → at_most h e.1.died ≡ false → first_only (Some e) ≡ chain_until (first_only o) h
  only_stays h stays = until_entries (e ∷ []) (e ∷ []) h (sorted_one e) (sym (ap (λ b. cond (not b) (e ∷ []) []) stays)) ∙ ap (λ x. chain_until (first_only x) h) (sym is)

  pub only_other : (born : ℕ) (part : Part) → (e.0 ≡ born → ⊥) → first_only (Some e) ≡ chain_forget (first_only o) born part
  only_other born part differ = sym (ap first_only is) ∙ nothing_there (first_only o) born part (ap (λ x. finmap.get (first_only x) born) is ∙ get_entries (e ∷ []) born ∙ by (tied born e.0) refl)
    where
      by : (b : Bool) → tied born e.0 ≡ b → cond b (Some e.1) None ≡ None
      by true t = absurd (differ (sym (tied_same born e.0 t)))
      by false t = refl

  module _ (born : ℕ) (same : e.0 ≡ born) where
    alone : StandsAt (e ∷ []) born 0
    alone = (omega arith, λ d. same)

    pub only_there : Some e.1 ≡ finmap.get (first_only o) born
    only_there = sym (ap (λ x. finmap.get (first_only x) born) is ∙ known (e ∷ []) 0 born e (sorted_one e) alone refl)

    pub join_only : (fact : Fact) (w : VersionValue) → put_result fact (Some e.1) ≡ Ok w → chain_put (first_only o) born fact ≡ Ok (first_only (Some (e.0, w)))
    join_only fact w put = ap (λ x. chain_put (first_only x) born fact) is ∙ joined (e ∷ []) 0 born e (sorted_one e) alone refl fact w put

    pub join_only_refused : (fact : Fact) (why : Refusal) → put_result fact (Some e.1) ≡ Err why → chain_put (first_only o) born fact ≡ Err why
    join_only_refused fact why put = ap (λ x. chain_put (first_only x) born fact) is ∙ join_refused (e ∷ []) 0 born e (sorted_one e) alone refl fact why put

    pub only_left : (part : Part) (w : VersionValue) → without part (Some e.1) ≡ Some w → first_only (Some (e.0, w)) ≡ chain_forget (first_only o) born part
    only_left part w left = left_over (e ∷ []) 0 born e (sorted_one e) alone refl part w left ∙ ap (λ x. chain_forget (first_only x) born part) (sym is)

    pub only_gone : (part : Part) → without part (Some e.1) ≡ None → finmap.empty ≡ chain_forget (first_only o) born part
    only_gone part gone = taken_out (e ∷ []) 0 born e (sorted_one e) alone refl part e.1 gone ∙ ap (λ x. chain_forget (first_only x) born part) (sym is)

-- ---- the versions of a list that have a row, or have none

module _ (es : List Entry) (i : ℕ) (e : Entry) (s : AreByBirth es) (within : i < length es) (is : e ≡ get_or es i e) where
  place : StandsAt es e.0 i
  place = (within, λ d. ap (λ (x : Entry). x.0) (get_or_same es i d e within ∙ sym is))

  pub look_more : (q : ℕ) → look q (take (i + 1) es) ≡ cond (tied q e.0) (Some e.1) (look q (take i es))
  look_more q = ap (look q) (take_more es i e within ∙ ap (λ x. take i es ++ x ∷ []) (sym is)) ∙ pushed (take i es) (λ k d low h. rw (get_or-take i es k d (omega (arith, h, length-take i es))) (front_below es e.0 i s place k d low (omega (arith, h, length-take i es))))
    where
      pushed : (xs : List Entry) → AllWithin (λ (x : Entry). x.0 < e.0) xs 0 (length xs) → look q (xs ++ e ∷ []) ≡ cond (tied q e.0) (Some e.1) (look q xs)
      pushed [] front = refl
      pushed (x ∷ xs) front = ap (cond (tied q x.0) (Some x.1)) (pushed xs (λ k d low h. front (suc k) d (omega arith) (omega arith))) ∙ passed q e.0 x.0 x.1 (Some e.1) (look q xs) (front zero x (omega arith) (omega arith))

  -- those before it were born before
  pub look_before : (q : ℕ) → is_some (look q (take i es)) ≡ true → q < e.0
  look_before q some = by (nat_lt q e.0) refl
    where
      lower : nat_lt q e.0 ≡ true → q < e.0
      lower t = grind (arith, nat_tests)

      upper : nat_lt q e.0 ≡ false → e.0 ≤ q
      upper t = grind (arith, nat_tests)

      by : (b : Bool) → nat_lt q e.0 ≡ b → q < e.0
      by true t = lower t
      by false t = absurd (true≢false (sym some ∙ ap is_some (none_tied q (take i es) (λ k d low h. over q (get_or (take i es) k d).0 (let a = upper t in let g = ap (λ (x : Entry). x.0) (get_or-take i es k d (omega (arith, h, length-take i es))) in let o = front_below es e.0 i s place k d low (omega (arith, h, length-take i es)) in omega (arith, a, g, o))))))

  -- one that is wanted goes in
  pub row_more : (with_row : Bool) → beq (is_some e.1.row) with_row ≡ true → (q : ℕ) → if_row with_row (look q (take (i + 1) es)) ≡ cond (tied q e.0) (Some e.1) (if_row with_row (look q (take i es)))
  row_more with_row wanted q = ap (if_row with_row) (look_more q) ∙ by (tied q e.0)
    where
      by : (b : Bool) → if_row with_row (cond b (Some e.1) (look q (take i es))) ≡ cond b (Some e.1) (if_row with_row (look q (take i es)))
      by true = ap (λ b. cond b (Some e.1) None) wanted
      by false = refl

  -- another is passed over
  pub row_less : (with_row : Bool) → beq (is_some e.1.row) with_row ≡ false → (q : ℕ) → if_row with_row (look q (take (i + 1) es)) ≡ if_row with_row (look q (take i es))
  row_less with_row other q = ap (if_row with_row) (look_more q) ∙ by (tied q e.0) refl
    where
      new : tied q e.0 ≡ true → look q (take i es) ≡ None
      new t = none_tied q (take i es) (λ k d low h. over q (get_or (take i es) k d).0 (let a = tied_same q e.0 t in let g = ap (λ (x : Entry). x.0) (get_or-take i es k d (omega (arith, h, length-take i es))) in let o = front_below es e.0 i s place k d low (omega (arith, h, length-take i es)) in omega (arith, a, g, o)))

      by : (b : Bool) → tied q e.0 ≡ b → if_row with_row (cond b (Some e.1) (look q (take i es))) ≡ if_row with_row (look q (take i es))
      by true t = ap (λ b. cond b (Some e.1) None) other ∙ sym (ap (if_row with_row) (new t))
      by false t = refl

pub row_all : (es : List Entry) (n q : ℕ) (with_row : Bool) → length es ≤ n → if_row with_row (look q (take n es)) ≡ if_row with_row (finmap.get (listed es) q)
row_all es n q with_row all = ap (λ xs. if_row with_row (look q xs)) (take_all n es all) ∙ ap (if_row with_row) (sym (get_entries es q))

pub row_told : {X Y : Type 0} (now : Y → X) (r : Option Y) (x : Option X) (b : Bool) → option_map now r ≡ x → b ≡ is_some r → is_some x ≡ b
row_told now None x b is e = ap is_some (sym is) ∙ sym e
row_told now (Some v) x b is e = ap is_some (sym is) ∙ sym e

pub same_truth : (a b c : Bool) → a ≡ b → not (beq b c) ≡ false → beq a c ≡ true
same_truth a b c e f = ap (λ x. beq x c) e ∙ by (beq b c) f
  where
    by : (x : Bool) → not x ≡ false → x ≡ true
    by true g = refl
    by false g = absurd (true≢false g)

pub other_truth : (a b c : Bool) → a ≡ b → not (beq b c) ≡ true → beq a c ≡ false
other_truth a b c e f = ap (λ x. beq x c) e ∙ by (beq b c) f
  where
    by : (x : Bool) → not x ≡ true → x ≡ false
    by true g = absurd (true≢false (sym g))
    by false g = refl

pub same_birth : (a b : ℕ) → not (a == b) ≡ false → a ≡ b
same_birth a b t = grind (arith, nat_tests)

pub other_birth : (a b : ℕ) → not (a == b) ≡ true → a ≡ b → ⊥
other_birth a b t e = grind (arith, nat_tests)

-- the two parts of a list
module _ (es : List Entry) (rows ends : ChainValue) (r : IsPartOf true es rows) (l : IsPartOf false es ends) where
  apart_parts : AreApart rows ends
  apart_parts q some = l q ∙ by (finmap.get (listed es) q) (sym (ap is_some (r q)) ∙ some)
    where
      by : (x : Option VersionValue) → is_some (if_row true x) ≡ true → if_row false x ≡ None
      by None t = refl
      by (Some v) t = row v.row v t
        where
          row : (o : Option RowValue) (v : VersionValue) → is_some (cond (beq (is_some o) true) (Some v) None) ≡ true → cond (beq (is_some o) false) (Some v) None ≡ None
          row None v t = absurd (true≢false (sym t))
          row (Some x) v t = refl

  pub parted_list : IsParted rows ends false
  parted_list = record { apart = apart_parts; bare = λ is q. ap row_of (l q) ∙ by (finmap.get (listed es) q) }
    where
      by : (x : Option VersionValue) → row_of (if_row false x) ≡ None
      by None = refl
      by (Some v) = row v.row refl
        where
          row : (o : Option RowValue) → v.row ≡ o → row_of (cond (beq (is_some o) false) (Some v) None) ≡ None
          row None is = is
          row (Some x) is = refl

  pub both_parts : both rows ends ≡ listed es
  both_parts = same_at_all _ _ (λ q. get_both rows ends q ∙ (λ i. or_else (r q i) (l q i)) ∙ by (finmap.get (listed es) q))
    where
      by : (x : Option VersionValue) → or_else (if_row true x) (if_row false x) ≡ x
      by None = refl
      by (Some v) = row v.row
        where
          row : (o : Option RowValue) → or_else (cond (beq (is_some o) true) (Some v) None) (cond (beq (is_some o) false) (Some v) None) ≡ Some v
          row None = refl
          row (Some x) = refl

-- ---- the last of a list

module _ (es : List Entry) (last : Entry) (s : AreByBirth es) (is : Some last ≡ slice_get es (length es - 1)) where
  some_last : 0 < length es
  some_last = let h = slice_get_inside es (length es - 1) last (sym is) in omega (arith, h)

  not_after : (k : ℕ) (d : Entry) → k < length es → (get_or es k d).0 ≤ last.0
  not_after k d h = by (cases_lt k (length es - 1))
    where
      end : get_or es (length es - 1) d ≡ last
      end = get_or_from_slice_get es (length es - 1) last d (sym is)

      by : (k < length es - 1) ⊎ (length es - 1 ≤ k) → (get_or es k d).0 ≤ last.0
      by (inl before) =
          let o = birth_order es k (length es - 1) d s before (omega (arith, some_last)) in
          let e = ap (λ (x : Entry). x.0) end in
          omega (arith, o, e)
      by (inr here) =
          let same : k ≡ length es - 1 = omega (arith, h, here) in
          let e = ap (λ n. (get_or es n d).0) same ∙ ap (λ (x : Entry). x.0) end in
          omega (arith, e)

  pub fits_last : (born : ℕ) → last.0 < born → FitsAt es born (length es)
  fits_last born above = (λ k d low h. let o = not_after k d h in omega (arith, o, above), λ k d low h. absurd (omega (arith, low, h)))

  pub all_until : (time : ℕ) → last.0 ≤ time → AllWithin (λ (e : Entry). e.0 ≤ time) es 0 (length es)
  all_until time above k d low h = let o = not_after k d h in omega (arith, o, above)

pub told_less : (a b : ℕ) (o : Ordering) → o ≡ nat_cmp a b → o ≡ Less → a < b
told_less a b o is less = by a b (sym is ∙ less)
  where
    by : (a b : ℕ) → nat_cmp a b ≡ Less → a < b
    by a b e = grind (arith, nat_tests)

pub told_not_less : (a b : ℕ) → is_lt (nat_cmp a b) ≡ false → b ≤ a
told_not_less a b e = grind (arith, nat_tests)

-- ---- a list in turn, one after the other

-- none of some versions ends after the birth of a later one, nor after a time
pub record InTurnUntil (known : ℕ → Option VersionValue) (latest : ℕ) : Type 0 where
  pub turn : (a b died : ℕ) → died_of (known a) ≡ Some died → is_some (known b) ≡ true → a < b → died ≤ b
  pub ends : (a died : ℕ) → died_of (known a) ≡ Some died → died ≤ latest

pub none_in_turn : (latest : ℕ) → InTurnUntil (λ _. None) latest
none_in_turn latest = record { turn = λ a b died is. cc; ends = λ a died is. cc }

pub one_more_in_turn : (old new : ℕ → Option VersionValue) (e : Entry) (latest next : ℕ) → ((q : ℕ) → new q ≡ cond (tied q e.0) (Some e.1) (old q)) → ((q : ℕ) → is_some (old q) ≡ true → q < e.0) → latest ≤ e.0 → latest ≤ next → IfSome e.1.died (λ died. died ≤ next) → InTurnUntil old latest → InTurnUntil new next
one_more_in_turn old new e latest next more lower fits rises ended is = record {
  turn = λ a b died end there lt. by a b died lt (tied a e.0) refl (tied b e.0) refl (sym (ap died_of (more a)) ∙ end) (sym (ap is_some (more b)) ∙ there);
  ends = λ a died end. up a died (tied a e.0) (sym (ap died_of (more a)) ∙ end);
}
  where
    by : (a b died : ℕ) → a < b → (x : Bool) → tied a e.0 ≡ x → (y : Bool) → tied b e.0 ≡ y → died_of (cond x (Some e.1) (old a)) ≡ Some died → is_some (cond y (Some e.1) (old b)) ≡ true → died ≤ b
    by a b died lt true s true t end there = let i = tied_same a e.0 s in let j = tied_same b e.0 t in absurd (omega (arith, i, j, lt))
    by a b died lt true s false t end there = let i = tied_same a e.0 s in let k = lower b there in absurd (omega (arith, i, k, lt))
    by a b died lt false s true t end there = let j = tied_same b e.0 t in let k = is.ends a died end in omega (arith, j, k, fits)
    by a b died lt false s false t end there = is.turn a b died end there lt

    up : (a died : ℕ) (x : Bool) → died_of (cond x (Some e.1) (old a)) ≡ Some died → died ≤ next
    up a died true end = subst (λ (o : Option ℕ). IfSome o (λ d. d ≤ next)) end ended
    up a died false end = let k = is.ends a died end in omega (arith, k, rises)

-- all of a list
pub list_in_turn : (es : List Entry) (n latest : ℕ) → length es ≤ n → InTurnUntil (λ q. look q (take n es)) latest → AreInTurn (listed es)
list_in_turn es n latest all is a b died end there lt = is.turn a b died (ap died_of (same a) ∙ end) (ap is_some (same b) ∙ there) lt
  where
    same : (q : ℕ) → look q (take n es) ≡ finmap.get (listed es) q
    same q = ap (look q) (take_all n es all) ∙ sym (get_entries es q)

-- ---- bounds of a list, one after the other

pub one_more_bounded : (old new : ℕ → Option VersionValue) (e : Entry) (bounds next : Bounds) → ((q : ℕ) → new q ≡ cond (tied q e.0) (Some e.1) (old q)) → ((time : ℕ) → MayBeBorn bounds time → MayBeBorn next time) → MayBeBorn next e.0 → bounds.latest ≤ next.latest → IfSome e.1.died (λ died. died ≤ next.latest) → AreBounded old bounds → AreBounded new next
one_more_bounded old new e bounds next more births here rises ended are = record {
  ends = λ a died end. up a died (tied a e.0) (sym (ap died_of (more a)) ∙ end);
  births = λ a there. by a (tied a e.0) refl (sym (ap is_some (more a)) ∙ there);
}
  where
    up : (a died : ℕ) (x : Bool) → died_of (cond x (Some e.1) (old a)) ≡ Some died → died ≤ next.latest
    up a died true end = subst (λ (o : Option ℕ). IfSome o (λ d. d ≤ next.latest)) end ended
    up a died false end = let k = are.ends a died end in omega (arith, k, rises)

    by : (a : ℕ) (x : Bool) → tied a e.0 ≡ x → is_some (cond x (Some e.1) (old a)) ≡ true → MayBeBorn next a
    by a true t there = subst (MayBeBorn next) (sym (tied_same a e.0 t)) here
    by a false t there = births a (are.births a there)

pub list_bounded : (es : List Entry) (n : ℕ) (bounds : Bounds) → length es ≤ n → AreBounded (λ q. look q (take n es)) bounds → AreBounded (finmap.get (listed es)) bounds
list_bounded es n bounds all are = record { ends = λ a died end. are.ends a died (ap died_of (same a) ∙ end); births = λ a there. are.births a (ap is_some (same a) ∙ there) }
  where
    same : (q : ℕ) → look q (take n es) ≡ finmap.get (listed es) q
    same q = ap (look q) (take_all n es all) ∙ sym (get_entries es q)
