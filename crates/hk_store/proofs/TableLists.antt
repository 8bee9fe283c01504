-- The first table of a walk, and the list of all.
use Rattle.std.proofs.Common.{◌≡◌, ℕ, ◌<◌, ◌≤◌, ◌+◌, Bool, true, false, ◌&&◌, ◌||◌, ◌==◌, ◌^◌, ◌-◌, ◌⊎◌, inl, inr, List, [], ◌∷◌, ◌++◌, map, Option, Some, None, is_some, refl, sym, ap, ◌∙◌, arith, nat_cmp, nat_le, nat_lt, is_le, Less}
use Rattle.std.specs.Prelude.{IfSome, IfNone}
use Rattle.std.specs.List.{list_any, AllByRecursion}
use Rattle.std.specs.List.Sorted.{IsStrictlySortedBy}
use Rattle.std.specs.Ordering.{eq_by_cmp}
use Rattle.std.proofs.lemmas.Bool.Decides.{nat_tests}
use Rattle.std.proofs.lemmas.List.Elements.{All-head}
use Rattle.std.proofs.lemmas.Map.Keys.{sorted_head}
use Rattle.hk_types.specs.declared.version_key.VersionKey.{VersionKey}
use Rattle.hk_log.specs.Versions.{VersionValue}
use Rattle.hk_model.specs.History.Rows.{version_key_cmp}
use Rattle.hk_chains.specs.Drops.{is_among}
use Rattle.hk_chains.specs.Facts.{FactsValue, known_at}
use Rattle.hk_chains.specs.Indexed.{has_fact}
use Rattle.hk_store.specs.TableLists.{AreTables, HasTable, NoneBetween}
use Rattle.hk_chains.specs.Versions.{AreVersionsOf}
use Rattle.hk_chains.proofs.Indexed.{known_fact}

abbrev pub start_of : ℕ → VersionKey
start_of table = record { table = table; key = 0; born = 0 }

abbrev pub from_table : ℕ → VersionKey → Bool
from_table table q = is_le (version_key_cmp (start_of table) q)

from_up : (first : ℕ) (q : VersionKey) → from_table first q ≡ true → first ≤ q.table
from_up first q is = grind (arith, nat_tests)

up_from : (first : ℕ) (q : VersionKey) → first ≤ q.table → from_table first q ≡ true
up_from first q is = grind (arith, nat_tests)

same_table : (v w : VersionKey) → eq_by_cmp version_key_cmp v w ≡ true → v.table ≡ w.table
same_table v w is = grind (arith, nat_tests)

later_table : (v w : VersionKey) → version_key_cmp v w ≡ Less → v.table ≤ w.table
later_table v w is = grind (arith, nat_tests)

both_left : (a b : Bool) → a && b ≡ true → a ≡ true
both_left true b h = refl
both_left false b h = absurd (cc)

both : (a b : Bool) → a ≡ true → b ≡ true → a && b ≡ true
both true true x y = refl
both true false x y = absurd (cc)
both false b x y = absurd (cc)

-- of versions behind another, each has its table or a later one
not_before : (k : VersionKey) (ks : List VersionKey) (v : VersionKey) → AllByRecursion (λ y. version_key_cmp k y ≡ Less) ks → is_among ks v ≡ true → k.table ≤ v.table
not_before k [] v later there = absurd (cc)
not_before k (y ∷ ys) v later there = go (eq_by_cmp version_key_cmp v y) refl there (not_before k ys v later.1)
  where
    go : (b : Bool) → eq_by_cmp version_key_cmp v y ≡ b → b || is_among ys v ≡ true → (is_among ys v ≡ true → k.table ≤ v.table) → k.table ≤ v.table
    go true is there ih =
        let low = later_table k y later.0 in
        let same = same_table v y is in
        omega (arith, low, same)
    go false is there ih = ih there

-- the table of the first version of a walk from a table on
module _ (f : FactsValue) (first : ℕ) (e : VersionKey × VersionValue) (es : List (VersionKey × VersionValue)) (are : AreVersionsOf f (from_table first) (e ∷ es)) where
  is_held : has_fact f e.0 ≡ true
  is_held = sym (known_fact f e.0) ∙ ap is_some (All-head (λ (e : VersionKey × VersionValue). known_at f e.0 ≡ Some e.1) e es are.known)

  itself : eq_by_cmp version_key_cmp e.0 e.0 ≡ true
  itself = grind (arith, nat_tests)

  pub has_first : HasTable f e.0.table
  has_first = (e.0, refl, is_held)

  pub not_below : first ≤ e.0.table
  not_below = from_up first e.0 (both_left (from_table first e.0) (is_some (known_at f e.0)) (are.all e.0 ∙ ap (λ b. b || is_among (map (λ (e : VersionKey × VersionValue). e.0) es) e.0) itself))

  pub none_between : NoneBetween f first e.0.table
  none_between v held low =
      let there = sym (are.all v) ∙ both (from_table first v) (is_some (known_at f v)) (up_from first v low) (known_fact f v ∙ held) in
      go (eq_by_cmp version_key_cmp v e.0) refl there
    where
      go : (b : Bool) → eq_by_cmp version_key_cmp v e.0 ≡ b → b || is_among (map (λ (e : VersionKey × VersionValue). e.0) es) v ≡ true → e.0.table ≤ v.table
      go true is there = let same = same_table v e.0 is in omega (arith, same)
      go false is there = not_before e.0 (map (λ (e : VersionKey × VersionValue). e.0) es) v (sorted_head version_key_cmp e.0 (map (λ (e : VersionKey × VersionValue). e.0) es) are.rising) there

-- where there is none each version is of an earlier table
pub none_from : (f : FactsValue) (first : ℕ) → AreVersionsOf f (from_table first) [] → (v : VersionKey) → has_fact f v ≡ true → v.table < first
none_from f first are v held = go (nat_le first v.table) refl
  where
    go : (b : Bool) → nat_le first v.table ≡ b → v.table < first
    go true is =
        let low : first ≤ v.table = grind (arith, nat_tests) in
        absurd (cc (sym (are.all v) ∙ both (from_table first v) (is_some (known_at f v)) (up_from first v low) (known_fact f v ∙ held)))
    go false is = grind (arith, nat_tests)

-- ---- the list of all

-- a version is of none of the tables so far where it isn't before the next one
abbrev pub IsToCome : Option ℕ → VersionKey → Type 0
IsToCome None v = ⊥
IsToCome (Some next) v = next ≤ v.table

-- the next table has a version, and comes behind those so far
abbrev pub IsNext : FactsValue → List ℕ → Option ℕ → Type 0
IsNext f tables None = Unit {0}
IsNext f tables (Some next) = HasTable f next × AllByRecursion (λ t. t < next) tables

pub record AreListed (f : FactsValue) (tables : List ℕ) (next : Option ℕ) : Type 0 where
  pub rising : IsStrictlySortedBy nat_cmp tables
  pub held : AllByRecursion (HasTable f) tables
  pub is_next : IsNext f tables next
  pub all : (v : VersionKey) → v.table < 2 ^ 16 → has_fact f v ≡ true → (list_any (λ t. t == v.table) tables ≡ true) ⊎ IsToCome next v

-- how many tables there may be from the next one on
abbrev pub left_from : Option ℕ → ℕ
left_from None = 0
left_from (Some next) = 65536 - next

-- what a look for the first table from a number on found
pub record IsFound (f : FactsValue) (first : ℕ) (found : Option ℕ) : Type 0 where
  pub has : IfSome found (λ t. HasTable f t)
  pub later : IfSome found (λ t. first ≤ t)
  pub least : IfSome found (λ t. NoneBetween f first t)
  pub none : IfNone found ((v : VersionKey) → has_fact f v ≡ true → v.table < first)

sorted_push : (xs : List ℕ) (y : ℕ) → IsStrictlySortedBy nat_cmp xs → AllByRecursion (λ t. t < y) xs → IsStrictlySortedBy nat_cmp (xs ++ y ∷ [])
unfolding IsStrictlySortedBy
sorted_push [] y sorted below = (tt, tt)
sorted_push (x ∷ xs) y sorted below = (pushed xs sorted.0 below.0, sorted_push xs y sorted.1 below.1)
  where
    pushed : (ts : List ℕ) → AllByRecursion (λ t. nat_cmp x t ≡ Less) ts → x < y → AllByRecursion (λ t. nat_cmp x t ≡ Less) (ts ++ y ∷ [])
    pushed [] all low = (grind (arith, nat_tests), tt)
    pushed (t ∷ ts) all low = (all.0, pushed ts all.1 low)

recursion_push : (P : ℕ → Type 0) (xs : List ℕ) (y : ℕ) → AllByRecursion P xs → P y → AllByRecursion P (xs ++ y ∷ [])
recursion_push P [] y all p = (p, tt)
recursion_push P (x ∷ xs) y all p = (all.0, recursion_push P xs y all.1 p)

below_next : (xs : List ℕ) (t next : ℕ) → AllByRecursion (λ s. s < t) xs → t < next → AllByRecursion (λ s. s < next) xs
below_next [] t next all low = tt
below_next (x ∷ xs) t next all low = (let a : x < t = all.0 in omega (arith, a, low), below_next xs t next all.1 low)

any_push : (xs : List ℕ) (y n : ℕ) → list_any (λ t. t == n) xs ≡ true → list_any (λ t. t == n) (xs ++ y ∷ []) ≡ true
any_push [] y n there = absurd (cc)
any_push (x ∷ xs) y n there = go (x == n) there (any_push xs y n)
  where
    go : (b : Bool) → b || list_any (λ t. t == n) xs ≡ true → (list_any (λ t. t == n) xs ≡ true → list_any (λ t. t == n) (xs ++ y ∷ []) ≡ true) → b || list_any (λ t. t == n) (xs ++ y ∷ []) ≡ true
    go true there ih = refl
    go false there ih = ih there

any_last : (xs : List ℕ) (y n : ℕ) → y ≡ n → list_any (λ t. t == n) (xs ++ y ∷ []) ≡ true
any_last [] y n same = grind (arith, nat_tests)
any_last (x ∷ xs) y n same = go (x == n) (any_last xs y n same)
  where
    go : (b : Bool) → list_any (λ t. t == n) (xs ++ y ∷ []) ≡ true → b || list_any (λ t. t == n) (xs ++ y ∷ []) ≡ true
    go true ih = refl
    go false ih = ih

pub listed_none : (f : FactsValue) (found : Option ℕ) → IsFound f 0 found → AreListed f [] found
unfolding IsStrictlySortedBy
listed_none f None is = record { rising = tt; held = tt; is_next = tt; all = λ v small held. absurd (let low = is.none v held in omega (arith, low)) }
listed_none f (Some next) is = record { rising = tt; held = tt; is_next = (is.has, tt); all = λ v small held. inr (is.least v held (omega arith)) }

-- one table more, and what was found behind it
pub listed_more : (f : FactsValue) (tables : List ℕ) (table : ℕ) (found : Option ℕ) → AreListed f tables (Some table) → IsFound f (table + 1) found → AreListed f (tables ++ table ∷ []) found
listed_more f tables table found are is = record {
  rising = sorted_push tables table are.rising are.is_next.1;
  held = recursion_push (HasTable f) tables table are.held are.is_next.0;
  is_next = next found is;
  all = λ v small held. go v (are.all v small held) (v.table == table) refl held found is;
}
  where
    next : (found : Option ℕ) → IsFound f (table + 1) found → IsNext f (tables ++ table ∷ []) found
    next None is = tt
    next (Some n) is =
        let low : table < n = let l : table + 1 ≤ n = is.later in omega (arith, l) in
        (is.has, recursion_push (λ t. t < n) tables table (below_next tables table n are.is_next.1 low) low)

    to_come : (v : VersionKey) (found : Option ℕ) → IsFound f (table + 1) found → has_fact f v ≡ true → table < v.table → IsToCome found v
    to_come v None is held low = let l = is.none v held in omega (arith, l, low)
    to_come v (Some n) is held low = is.least v held (omega (arith, low))

    go : (v : VersionKey) → (list_any (λ t. t == v.table) tables ≡ true) ⊎ (table ≤ v.table) → (b : Bool) → (v.table == table) ≡ b → has_fact f v ≡ true → (found : Option ℕ) → IsFound f (table + 1) found
        → (list_any (λ t. t == v.table) (tables ++ table ∷ []) ≡ true) ⊎ IsToCome found v
    go v (inl there) b is held found by = inl (any_push tables table v.table there)
    go v (inr low) true is held found by = inl (any_last tables table v.table (grind (arith, nat_tests)))
    go v (inr low) false is held found by = inr (to_come v found by held (grind (arith, nat_tests)))

-- the same where the table has the last number
pub listed_last : (f : FactsValue) (tables : List ℕ) (table : ℕ) → AreListed f tables (Some table) → 65535 ≤ table → AreListed f (tables ++ table ∷ []) None
listed_last f tables table are last = record {
  rising = sorted_push tables table are.rising are.is_next.1;
  held = recursion_push (HasTable f) tables table are.held are.is_next.0;
  is_next = tt;
  all = λ v small held. go v small (are.all v small held);
}
  where
    go : (v : VersionKey) → v.table < 2 ^ 16 → (list_any (λ t. t == v.table) tables ≡ true) ⊎ (table ≤ v.table) → (list_any (λ t. t == v.table) (tables ++ table ∷ []) ≡ true) ⊎ IsToCome None v
    go v small (inl there) = inl (any_push tables table v.table there)
    go v small (inr low) = inl (any_last tables table v.table (omega (arith, small, low, last)))

pub all_are : (f : FactsValue) (tables : List ℕ) → AreListed f tables None → AreTables f tables
all_are f tables are = record { rising = are.rising; held = are.held; all = λ v small held. go v (are.all v small held) }
  where
    go : (v : VersionKey) → (list_any (λ t. t == v.table) tables ≡ true) ⊎ IsToCome None v → list_any (λ t. t == v.table) tables ≡ true
    go v (inl there) = there
    go v (inr none) = absurd none

pub not_more : (table : ℕ) → (table + 1 < 65536 → ⊥) → 65535 ≤ table
not_more table not = go (nat_lt (table + 1) 65536) refl
  where
    go : (b : Bool) → nat_lt (table + 1) 65536 ≡ b → 65535 ≤ table
    go true is = absurd (not (grind (arith, nat_tests)))
    go false is = grind (arith, nat_tests)
