-- What a stored set of versions answers is what the set that is seen answers.
use Rattle.std.proofs.Common.{◌≡◌, refl, sym, ap, ◌∙◌, ℕ, ◌≤◌, Bool, true, false, cond, List, [], ◌∷◌, filter, ◌||◌, ◌&&◌, ◌==◌, nat_le, nat_cmp, is_le, is_eq, is_gt, eqb-true, eq-eqb, leb-true, le-leb, subst, Less, Equal, Greater, Ordering, arith, true≢false}
use Rattle.std.proofs.lemmas.Bool.Decides.{nat_tests}
use Rattle.std.proofs.lemmas.List.Kept.{IsStrictlySortedBy-filter}
use Rattle.std.proofs.lemmas.Bool.{and_parts, and_from}
use Rattle.std.proofs.lemmas.List.Sums.{take_while-cons}
use Rattle.std.proofs.lemmas.Map.Keys.{sorted_head, sorted_tail}
use Rattle.std.specs.List.{list_any, take_while, AllByRecursion}
use Rattle.std.specs.List.Sorted.{IsStrictlySortedBy}
use Rattle.std.specs.Ordering.{eq_by_cmp, ordering_then}
use Rattle.std.specs.Cmp.{Equal-is}
use Rattle.std.specs.BTreeSet.{BTreeSet}
use Rattle.std.specs.BTreeSet as sorted
use Rattle.std.specs.FinSet as set
use Rattle.hk_types.specs.declared.version_key.VersionKey.{VersionKey}
use Rattle.hk_model.specs.History.Rows.{version_key_cmp}
use Rattle.hk_model.proofs.Replica.Maps.{version_key_total, version_key_same}
use Rattle.hk_index.specs.Listed.{Lists, is_up_to, with_keys}

-- the set of a tree's keys
abbrev pub seen : BTreeSet VersionKey → set.FinSet version_key_cmp
seen s = set.from_list s.keys

pub contains-seen : (s : BTreeSet VersionKey) (v : VersionKey) → set.contains (seen s) v ≡ sorted.contains version_key_cmp s v
contains-seen s v = set.contains-from_list version_key_total s.keys v

pub tied_versions : (v q : VersionKey) → eq_by_cmp version_key_cmp v q ≡ true → v ≡ q
tied_versions v q e = version_key_same v q ((Equal-is (version_key_cmp v q)).0 e)

pub seen-listed : (vs : List VersionKey) (t : BTreeSet VersionKey) → sorted.IsFromIterResult version_key_cmp vs t → seen t ≡ set.from_list vs
seen-listed vs t is = set.same_set version_key_total version_key_same _ _ (λ q. contains-seen t q ∙ is.0 q ∙ sym (set.contains-from_list version_key_total vs q))

-- ---- a range of keys

pub any-filter : (p : VersionKey → Bool) (vs : List VersionKey) (q : VersionKey) → list_any (eq_by_cmp version_key_cmp q) (filter p vs) ≡ (list_any (eq_by_cmp version_key_cmp q) vs && p q)
any-filter p [] q = refl
any-filter p (v ∷ vs) q =
    elim (eq_by_cmp version_key_cmp q v) as (λ b. eq_by_cmp version_key_cmp q v ≡ b → list_any (eq_by_cmp version_key_cmp q) (cond (p v) (v ∷ filter p vs) (filter p vs)) ≡ ((b || list_any (eq_by_cmp version_key_cmp q) vs) && p q)) [
      | true ↦ λ t. here (p v) t (ap p (sym (tied_versions q v t))) (any-filter p vs q)
      | false ↦ λ t. elsewhere (p v) t ∙ any-filter p vs q
    ] refl
  where
    and_false : (k : Bool) → (k && false) ≡ false
    and_false true = refl
    and_false false = refl

    here : (b : Bool) → eq_by_cmp version_key_cmp q v ≡ true → b ≡ p q → list_any (eq_by_cmp version_key_cmp q) (filter p vs) ≡ (list_any (eq_by_cmp version_key_cmp q) vs && p q)
        → list_any (eq_by_cmp version_key_cmp q) (cond b (v ∷ filter p vs) (filter p vs)) ≡ p q
    here true t e rest = ap (λ k. k || list_any (eq_by_cmp version_key_cmp q) (filter p vs)) t ∙ e
    here false t e rest = rest ∙ ap (λ k. list_any (eq_by_cmp version_key_cmp q) vs && k) (sym e) ∙ and_false (list_any (eq_by_cmp version_key_cmp q) vs) ∙ e

    elsewhere : (b : Bool) → eq_by_cmp version_key_cmp q v ≡ false → list_any (eq_by_cmp version_key_cmp q) (cond b (v ∷ filter p vs) (filter p vs)) ≡ list_any (eq_by_cmp version_key_cmp q) (filter p vs)
    elsewhere true t = ap (λ k. k || list_any (eq_by_cmp version_key_cmp q) (filter p vs)) t
    elsewhere false t = refl

abbrev between : ℕ → ℕ → ℕ → VersionKey → Bool
between table low high v = (v.table == table) && (nat_le low v.key && nat_le v.key high)

-- the first version that a table can have at a key
abbrev first : ℕ → ℕ → VersionKey
first table low = record { table = table; key = low; born = 0 }

abbrev is_from : ℕ → ℕ → VersionKey → Bool
is_from table low v = is_le (version_key_cmp (first table low) v)

pub from_low : (low key born : ℕ) → is_le (ordering_then (nat_cmp low key) (nat_cmp 0 born)) ≡ nat_le low key
from_low low key born =
    elim (nat_cmp low key) as (λ o. nat_cmp low key ≡ o → is_le (ordering_then o (nat_cmp 0 born)) ≡ nat_le low key) [
      | Less ↦ λ e. let f = ap is_le e in less low key f
      | Equal ↦ λ e. let f = ap is_le e in least born ∙ less low key f
      | Greater ↦ λ e. let f = ap is_le e in more low key f
    ] refl
  where
    less : (a b : ℕ) → is_le (nat_cmp a b) ≡ true → true ≡ nat_le a b
    less a b f = grind (arith, nat_tests)

    more : (a b : ℕ) → is_le (nat_cmp a b) ≡ false → false ≡ nat_le a b
    more a b f = grind (arith, nat_tests)

    least : (born : ℕ) → is_le (nat_cmp 0 born) ≡ true
    least born = grind (arith, nat_tests)

-- a version of the table that is up to high and from low
pub from_up_to : (table low high : ℕ) (v : VersionKey) → (is_from table low v && is_up_to table high v) ≡ between table low high v
from_up_to table low high v =
    elim (nat_cmp table v.table) as (λ o. nat_cmp table v.table ≡ o →
    (is_le (ordering_then o (ordering_then (nat_cmp low v.key) (nat_cmp 0 v.born))) && ((v.table == table) && nat_le v.key high)) ≡ ((v.table == table) && (nat_le low v.key && nat_le v.key high))) [
      | Less ↦ λ e. let f = ap is_eq e in other (v.table == table) (nat_le low v.key) (nat_le v.key high) (apart table v.table f)
      | Equal ↦ λ e. ap (λ b. b && ((v.table == table) && nat_le v.key high)) (from_low low v.key v.born) ∙ swapped (nat_le low v.key) (v.table == table) (nat_le v.key high)
      | Greater ↦ λ e. let f = ap is_eq e in ap (λ b. b && (nat_le low v.key && nat_le v.key high)) (sym (apart table v.table f))
    ] refl
  where
    apart : (a b : ℕ) → is_eq (nat_cmp a b) ≡ false → (b == a) ≡ false
    apart a b f = grind (arith, nat_tests)

    other : (b l h : Bool) → b ≡ false → (b && h) ≡ (b && (l && h))
    other true l h e = absurd (true≢false e)
    other false l h e = refl

    swapped : (l b h : Bool) → (l && (b && h)) ≡ (b && (l && h))
    swapped true b h = refl
    swapped false true h = refl
    swapped false false h = refl

pub no_greater : (a b : ℕ) → is_gt (nat_cmp a b) ≡ false → a ≤ b
no_greater a b f = grind (arith, nat_tests)

pub unequal : (a b : ℕ) → a ≡ b → is_eq (nat_cmp a b) ≡ false → ⊥
unequal a b same f = grind (arith, nat_tests)

-- of two versions the lower has no greater table, and in the same table no greater key
pub table_rises : (v w : VersionKey) → version_key_cmp v w ≡ Less → v.table ≤ w.table
table_rises v w e =
    elim (nat_cmp v.table w.table) as (λ o. nat_cmp v.table w.table ≡ o → ordering_then o (ordering_then (nat_cmp v.key w.key) (nat_cmp v.born w.born)) ≡ Less → v.table ≤ w.table) [
      | Less ↦ λ o _. let f = ap is_gt o in no_greater v.table w.table f
      | Equal ↦ λ o _. let f = ap is_gt o in no_greater v.table w.table f
      | Greater ↦ λ o l. absurd (true≢false (ap is_gt l))
    ] refl e

key_rises : (v w : VersionKey) → version_key_cmp v w ≡ Less → v.table ≡ w.table → v.key ≤ w.key
key_rises v w e same =
    elim (nat_cmp v.table w.table) as (λ o. nat_cmp v.table w.table ≡ o → ordering_then o (ordering_then (nat_cmp v.key w.key) (nat_cmp v.born w.born)) ≡ Less → v.key ≤ w.key) [
      | Less ↦ λ o _. let f = ap is_eq o in absurd (unequal v.table w.table same f)
      | Equal ↦ λ _ l. elim (nat_cmp v.key w.key) as (λ o. nat_cmp v.key w.key ≡ o → ordering_then o (nat_cmp v.born w.born) ≡ Less → v.key ≤ w.key) [
        | Less ↦ λ o _. let f = ap is_gt o in no_greater v.key w.key f
        | Equal ↦ λ o _. let f = ap is_gt o in no_greater v.key w.key f
        | Greater ↦ λ o k. absurd (true≢false (ap is_gt k))
      ] refl l
      | Greater ↦ λ o _. let f = ap is_eq o in absurd (unequal v.table w.table same f)
    ] refl e

pub from_table : (table low : ℕ) (v : VersionKey) → is_from table low v ≡ true → table ≤ v.table
from_table table low v e =
    elim (nat_cmp table v.table) as (λ o. nat_cmp table v.table ≡ o → is_le (ordering_then o (ordering_then (nat_cmp low v.key) (nat_cmp 0 v.born))) ≡ true → table ≤ v.table) [
      | Less ↦ λ o _. let f = ap is_gt o in no_greater table v.table f
      | Equal ↦ λ o _. let f = ap is_gt o in no_greater table v.table f
      | Greater ↦ λ o l. absurd (true≢false (sym l))
    ] refl e

-- a version between the first one and one that is up to high is up to high
up_to_below : (table low high : ℕ) (v w : VersionKey) → is_from table low v ≡ true → version_key_cmp v w ≡ Less → is_up_to table high w ≡ true → is_up_to table high v ≡ true
up_to_below table low high v w from less up =
    let parts = and_parts (w.table == table) (nat_le w.key high) up in
    let a = from_table table low v from in
    let b = table_rises v w less in
    let there : w.table ≡ table = eqb-true w.table table parts.0 in
    let here : v.table ≡ table = omega arith in
    let c = key_rises v w less (here ∙ sym there) in
    let d : w.key ≤ high = leb-true w.key high parts.1 in
    and_from (v.table == table) (nat_le v.key high) (eq-eqb v.table table here) (le-leb v.key high (omega arith))

pub none_after : {K : Type 0} (p : K → Bool) (vs : List K) → AllByRecursion (λ w. p w ≡ true → ⊥) vs → filter p vs ≡ []
none_after p [] none = refl
none_after p (w ∷ vs) none = elim (p w) as (λ b. p w ≡ b → cond b (w ∷ filter p vs) (filter p vs) ≡ []) [ true ↦ λ e. absurd (none.0 e) | false ↦ λ e. none_after p vs none.1 ] refl

pub all_after : {K : Type 0} {P Q : K → Type 0} (vs : List K) → ((w : K) → P w → Q w) → AllByRecursion P vs → AllByRecursion Q vs
all_after [] f all = tt
all_after (w ∷ vs) f all = (f w all.0, all_after vs f all.1)

-- the versions up to high come first
while_filter : (table low high : ℕ) (vs : List VersionKey) → AllByRecursion (λ w. is_from table low w ≡ true) vs → IsStrictlySortedBy version_key_cmp vs → take_while (is_up_to table high) vs ≡ filter (is_up_to table high) vs
while_filter table low high [] from rising = refl
while_filter table low high (v ∷ vs) from rising =
    take_while-cons (is_up_to table high) v vs
    ∙ elim (is_up_to table high v) as (λ b. is_up_to table high v ≡ b → cond b (v ∷ take_while (is_up_to table high) vs) [] ≡ cond b (v ∷ filter (is_up_to table high) vs) (filter (is_up_to table high) vs)) [
      | true ↦ λ e. ap (λ l. v ∷ l) (while_filter table low high vs from.1 (sorted_tail version_key_cmp v vs rising))
      | false ↦ λ e. sym (none_after (is_up_to table high) vs (all_after vs (λ w less up. true≢false (sym (up_to_below table low high v w from.0 less up) ∙ e)) (sorted_head version_key_cmp v vs rising)))
    ] refl

pub all_filter : {K : Type 0} (p : K → Bool) (vs : List K) → AllByRecursion (λ w. p w ≡ true) (filter p vs)
all_filter p [] = tt
all_filter p (v ∷ vs) = elim (p v) as (λ b. p v ≡ b → AllByRecursion (λ w. p w ≡ true) (cond b (v ∷ filter p vs) (filter p vs))) [ true ↦ λ e. (e, all_filter p vs) | false ↦ λ e. all_filter p vs ] refl

contains-with_keys : (index : set.FinSet version_key_cmp) (table low high : ℕ) (q : VersionKey) → set.contains (with_keys index table low high) q ≡ (set.contains index q && between table low high q)
contains-with_keys index table low high q = set.contains-retain index (between table low high) q (λ x t. ap (between table low high) (sym (version_key_same q x t)))

-- the sorted versions of a table with keys from low to high
pub Lists-from : (keys : List VersionKey) (table low high : ℕ) (vs : List VersionKey) → IsStrictlySortedBy version_key_cmp keys
    → vs ≡ take_while (is_up_to table high) (filter (is_from table low) keys)
    → Lists vs (with_keys (set.from_list keys) table low high)
Lists-from keys table low high vs rising is = record {
  same = set.same_set version_key_total version_key_same (set.from_list vs) (with_keys (set.from_list keys) table low high) (λ q.
      set.contains-from_list version_key_total vs q
      ∙ ap (list_any (eq_by_cmp version_key_cmp q)) all
      ∙ any-filter (is_up_to table high) (filter (is_from table low) keys) q
      ∙ ap (λ b. b && is_up_to table high q) (any-filter (is_from table low) keys q)
      ∙ regroup (list_any (eq_by_cmp version_key_cmp q) keys) (is_from table low q) (is_up_to table high q)
      ∙ (λ i. sym (set.contains-from_list version_key_total keys q) i && from_up_to table low high q i)
      ∙ sym (contains-with_keys (set.from_list keys) table low high q));
  rising = subst (IsStrictlySortedBy version_key_cmp) (sym all) (IsStrictlySortedBy-filter version_key_cmp (is_up_to table high) (filter (is_from table low) keys) some_rise);
}
  where
    some_rise : IsStrictlySortedBy version_key_cmp (filter (is_from table low) keys)
    some_rise = IsStrictlySortedBy-filter version_key_cmp (is_from table low) keys rising

    all : vs ≡ filter (is_up_to table high) (filter (is_from table low) keys)
    all = is ∙ while_filter table low high (filter (is_from table low) keys) (all_filter (is_from table low) keys) some_rise

    regroup : (a b c : Bool) → ((a && b) && c) ≡ (a && (b && c))
    regroup true b c = refl
    regroup false b c = refl

-- ---- orders that tie

pub same_number : (a b : ℕ) → (a == b) ≡ is_eq (nat_cmp a b)
same_number a b = grind (arith, nat_tests)

pub then_tied : (a b : ℕ) (o : Ordering) → is_eq (ordering_then (nat_cmp a b) o) ≡ ((a == b) && is_eq o)
then_tied a b o =
    elim (nat_cmp a b) as (λ k. nat_cmp a b ≡ k → is_eq (ordering_then k o) ≡ ((a == b) && is_eq o)) [
      | Less ↦ λ e. ap (λ c. c && is_eq o) (sym (same_number a b ∙ ap is_eq e))
      | Equal ↦ λ e. ap (λ c. c && is_eq o) (sym (same_number a b ∙ ap is_eq e))
      | Greater ↦ λ e. ap (λ c. c && is_eq o) (sym (same_number a b ∙ ap is_eq e))
    ] refl
