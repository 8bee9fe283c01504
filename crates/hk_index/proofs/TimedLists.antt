-- Lists of timed rows, and the sets that they are seen as.
use Rattle.std.proofs.Common.{◌≡◌, refl, sym, ap, ◌∙◌, subst, ℕ, zero, suc, Bool, true, false, not, ◌||◌, ◌&&◌, ◌==◌, ◌≤◌, ◌<◌, ◌+◌, ◌-◌, List, [], ◌∷◌, ◌++◌, length, take, drop, get_or, map, filter, cond, Less, Equal, Greater, is_eq, nat_cmp, Ordering, nat_lt, nat_le, arith, true≢false, Result, Ok, Err}
use Rattle.std.proofs.lemmas.Bool.Decides.{nat_tests}
use Rattle.std.proofs.lemmas.List.{length-append, take-append-drop, take-append-le, take_all}
use Rattle.std.proofs.lemmas.List.Folds.{list_any-append}
use Rattle.std.proofs.lemmas.List.Sorted.{IsNonDecreasingBy-from_all_adjacent, IsNonDecreasingBy-push}
use Rattle.std.specs.List.{AllByRecursion, AllWithin}
use Rattle.std.specs.List.Sorted.{IsNonDecreasingBy, IsStrictlySortedBy}
use Rattle.std.specs.Result.{OnOk, is_ok}
use Rattle.std.specs.Ordering.{eq_by_cmp, ordering_then}
use Rattle.std.specs.Cmp.{IsTotalOrder, then_total, on_total, nat_cmp_total, Equal-is, tied_itself}
use Rattle.std.specs.FinMap as finmap
use Rattle.std.specs.FinSet as set
use Rattle.hk_model.specs.History.Rows.{RowKey, row_key_cmp}
use Rattle.hk_model.proofs.Replica.Maps.{row_key_total, row_key_same, first_ties, second_ties, nat_ties}
use Rattle.hk_index.proofs.StoredKeys.{same_number, then_tied}
use Rattle.hk_index.specs.declared.span.Span.{Span}
use Rattle.hk_index.specs.declared.timed_row.TimedRow.{TimedRow}
use Rattle.hk_index.specs.Timed.{timed_cmp, is_among, is_in, is_in_span, is_within, has_row, IsOrdered}

pub timed_total : IsTotalOrder timed_cmp
timed_total = then_total (on_total (λ (t : TimedRow). t.time) nat_cmp_total) (on_total (λ (t : TimedRow). t.row) row_key_total)

-- timed rows that tie are one
pub timed_same : finmap.IsAntisymmetric timed_cmp
timed_same x y e =
    let t = nat_ties x.time y.time (first_ties _ _ e) in
    let k = row_key_same x.row y.row (second_ties (nat_cmp x.time y.time) _ e) in
    λ i. record { time = t i; row = k i }

pub tied_is : (x y : TimedRow) → eq_by_cmp timed_cmp x y ≡ true → x ≡ y
tied_is x y e = timed_same x y ((Equal-is (timed_cmp x y)).0 e)

-- rows tie where they are equal
pub equal_rows : (j k : RowKey) → ((j.table == k.table) && (j.key == k.key)) ≡ eq_by_cmp row_key_cmp j k
equal_rows j k = ap (λ b. (j.table == k.table) && b) (same_number j.key k.key) ∙ sym (then_tied j.table k.table (nat_cmp j.key k.key))

-- and timed rows
pub equal_ties : (s t : TimedRow) → ((s.time == t.time) && ((s.row.table == t.row.table) && (s.row.key == t.row.key))) ≡ eq_by_cmp timed_cmp s t
equal_ties s t = ap (λ b. (s.time == t.time) && b) (equal_rows s.row t.row) ∙ sym (then_tied s.time t.time (row_key_cmp s.row t.row))

or_right : (a b : Bool) → b ≡ true → (a || b) ≡ true
or_right true b e = refl
or_right false b e = e

in_both : (t : TimedRow) (ts : List TimedRow) (i : ℕ) → is_in ts t ≡ (is_in (take i ts) t || is_in (drop i ts) t)
in_both t ts i = ap (λ l. is_in l t) (sym (take-append-drop i ts)) ∙ list_any-append (eq_by_cmp timed_cmp t) (take i ts) (drop i ts)

-- ---- the set of a list

pub pushed : (ts : List TimedRow) (t : TimedRow) → set.from_list {R = timed_cmp} (ts ++ t ∷ []) ≡ set.insert (set.from_list ts) t
pushed = set.from_list_push timed_total timed_same

-- one that is there comes again
pub again : (ts : List TimedRow) (t : TimedRow) → is_in ts t ≡ true → set.from_list {R = timed_cmp} ts ≡ set.insert (set.from_list ts) t
again ts t there = set.same_set timed_total timed_same _ _ (λ q. sym (set.contains-insert timed_total (set.from_list ts) t q ∙ by q (eq_by_cmp timed_cmp q t) refl))
  where
    by : (q : TimedRow) (b : Bool) → eq_by_cmp timed_cmp q t ≡ b → (b || set.contains (set.from_list {R = timed_cmp} ts) q) ≡ set.contains (set.from_list {R = timed_cmp} ts) q
    by q true e = sym (set.contains-from_list timed_total ts q ∙ ap (is_in ts) (tied_is q t e) ∙ there)
    by q false e = refl

-- ---- the order of time

-- a row below another has no later time
times_rise : (x y : TimedRow) → timed_cmp x y ≡ Less → x.time ≤ y.time
times_rise x y e = by (nat_cmp x.time y.time) refl e
  where
    by : (o : Ordering) → nat_cmp x.time y.time ≡ o → ordering_then o (row_key_cmp x.row y.row) ≡ Less → x.time ≤ y.time
    by Less is e = grind (arith, nat_tests)
    by Equal is e = let t = nat_ties x.time y.time is in omega arith
    by Greater is e = cc

all_get : (P : TimedRow → Type 0) (xs : List TimedRow) → AllByRecursion P xs → (i : ℕ) (d : TimedRow) → i < length xs → P (get_or xs i d)
all_get P [] a i d h = absurd (omega arith)
all_get P (x ∷ xs) a zero d h = a.0
all_get P (x ∷ xs) a (suc i) d h = all_get P xs a.1 i d (omega arith)

in_order : (xs : List TimedRow) → IsStrictlySortedBy timed_cmp xs → (i j : ℕ) (d : TimedRow) → i < j → j < length xs → timed_cmp (get_or xs i d) (get_or xs j d) ≡ Less
unfolding IsStrictlySortedBy
in_order [] s i j d l h = absurd (omega arith)
in_order (x ∷ xs) s zero zero d l h = absurd (omega arith)
in_order (x ∷ xs) s zero (suc j) d l h = all_get (λ y. timed_cmp x y ≡ Less) xs s.0 j d (omega arith)
in_order (x ∷ xs) s (suc i) zero d l h = absurd (omega arith)
in_order (x ∷ xs) s (suc i) (suc j) d l h = in_order xs s.1 i j d (omega arith) (omega arith)

times_sorted : (ts : List TimedRow) → IsStrictlySortedBy timed_cmp ts → IsNonDecreasingBy (λ (t : TimedRow). t.time) ts
times_sorted ts s = IsNonDecreasingBy-from_all_adjacent (λ (t : TimedRow). t.time) ts (λ k d h. times_rise (get_or ts k d) (get_or ts (k + 1) d) (in_order ts s k (k + 1) d (omega arith) h))

-- all are in order
pub all_ordered : (ts : List TimedRow) (n : ℕ) → n ≡ length ts → IsNonDecreasingBy (λ (t : TimedRow). t.time) ts → IsOrdered ts n
all_ordered ts n e rising = record { fits = omega arith; rising = subst (IsNonDecreasingBy (λ (t : TimedRow). t.time)) (sym (take_all n ts (omega arith))) rising }

pub sorted_ordered : (ts : List TimedRow) (n : ℕ) → n ≡ length ts → IsStrictlySortedBy timed_cmp ts → IsOrdered ts n
sorted_ordered ts n e s = all_ordered ts n e (times_sorted ts s)

-- with one more behind
pub more_ordered : (ts : List TimedRow) (t : TimedRow) (n : ℕ) → IsOrdered ts n → IsOrdered (ts ++ t ∷ []) n
more_ordered ts t n is = record { fits = omega (arith, is.fits, length-append ts (t ∷ [])); rising = subst (IsNonDecreasingBy (λ (t : TimedRow). t.time)) (sym (take-append-le n ts (t ∷ []) is.fits)) is.rising }

-- with one more behind the last
pub one_more : (ts : List TimedRow) (n : ℕ) (t : TimedRow) → IsOrdered ts n → n ≡ length ts → ((d : TimedRow) → 0 < length ts → (get_or ts (length ts - 1) d).time ≤ t.time) → IsNonDecreasingBy (λ (t : TimedRow). t.time) (ts ++ t ∷ [])
one_more ts n t is all last = IsNonDecreasingBy-push (λ (t : TimedRow). t.time) ts t (subst (IsNonDecreasingBy (λ (t : TimedRow). t.time)) (take_all n ts (omega arith)) is.rising) last

-- ---- those within

module _ (p : TimedRow → Bool) (t : TimedRow) where
  apart : (b : Bool) (x : TimedRow) → p t ≡ b → p x ≡ not b → eq_by_cmp timed_cmp t x ≡ false
  apart b x e f = by (eq_by_cmp timed_cmp t x) refl
    where
      differ : (b : Bool) → b ≡ not b → ⊥
      differ true e = cc
      differ false e = cc

      by : (k : Bool) → eq_by_cmp timed_cmp t x ≡ k → k ≡ false
      by true same = absurd (differ b (sym e ∙ ap p (tied_is t x same) ∙ f))
      by false same = refl

  -- one that fails the test is not in the front, where all pass it
  pub not_in_front : (ts : List TimedRow) (i : ℕ) → p t ≡ false → AllWithin (λ x. p x ≡ true) ts 0 i → i ≤ length ts → is_in (take i ts) t ≡ false
  not_in_front ts zero e all h = refl
  not_in_front [] (suc i) e all h = absurd (omega arith)
  not_in_front (x ∷ xs) (suc i) e all h =
      ap (λ b. b || is_in (take i xs) t) (apart false x e (all 0 x (omega arith) (omega arith)))
      ∙ not_in_front xs i e (λ k d low high. all (suc k) d (omega arith) (omega arith)) (omega arith)

  -- one that passes it is not in the back, where none does
  pub not_in_back : (ts : List TimedRow) (i : ℕ) → p t ≡ true → AllWithin (λ x. p x ≡ false) ts i (length ts) → is_in (drop i ts) t ≡ false
  not_in_back [] zero e all = refl
  not_in_back [] (suc i) e all = refl
  not_in_back (x ∷ xs) zero e all =
      ap (λ b. b || is_in xs t) (apart true x e (all 0 x (omega arith) (omega arith)))
      ∙ not_in_back xs zero e (λ k d low high. all (suc k) d (omega arith) (omega arith))
  not_in_back (x ∷ xs) (suc i) e all = not_in_back xs i e (λ k d low high. all (suc k) d (omega arith) (omega arith))

-- those from a first time on are all behind a place
pub from_first : (ts : List TimedRow) (from start : ℕ) → start ≤ length ts → AllWithin (λ t. nat_lt t.time from ≡ true) ts 0 start → (t : TimedRow) → nat_le from t.time ≡ true → is_in ts t ≡ true → is_in (drop start ts) t ≡ true
from_first ts from start fits front t first there =
    sym (ap (λ b. b || is_in (drop start ts) t) (not_in_front (λ (t : TimedRow). nat_lt t.time from) t ts start (below from t.time first) front fits)) ∙ sym (in_both t ts start) ∙ there
  where
    below : (a b : ℕ) → nat_le a b ≡ true → nat_lt b a ≡ false
    below a b e = grind (arith, nat_tests)

-- those up to a last time are all before a place
pub until_last : (ts : List TimedRow) (until count : ℕ) → AllWithin (λ t. nat_le t.time until ≡ false) ts count (length ts) → (t : TimedRow) → nat_le t.time until ≡ true → is_in ts t ≡ true → is_in (take count ts) t ≡ true
until_last ts until count back t last there =
    sym (ap (λ b. is_in (take count ts) t || b) (not_in_back (λ (t : TimedRow). nat_le t.time until) t ts count last back) ∙ or_none (is_in (take count ts) t)) ∙ sym (in_both t ts count) ∙ there
  where
    or_none : (b : Bool) → (b || false) ≡ b
    or_none true = refl
    or_none false = refl

-- ---- the rows of those within

abbrev pub rows_in : Span → List TimedRow → List RowKey
rows_in span ts = map (λ t. t.row) (filter (is_within span) ts)

named : (span : Span) (ts : List TimedRow) (t : TimedRow) → is_within span t ≡ true → is_in ts t ≡ true → is_among (rows_in span ts) t.row ≡ true
named span [] t within there = there
named span (x ∷ xs) t within there = by (eq_by_cmp timed_cmp t x) (is_within span x) refl refl there (named span xs t within)
  where
    by : (same is : Bool) → eq_by_cmp timed_cmp t x ≡ same → is_within span x ≡ is → (same || is_in xs t) ≡ true → (is_in xs t ≡ true → is_among (rows_in span xs) t.row ≡ true)
        → is_among (map (λ t. t.row) (cond is (x ∷ filter (is_within span) xs) (filter (is_within span) xs))) t.row ≡ true
    by true true e f _ _ = ap (λ (y : TimedRow). eq_by_cmp row_key_cmp t.row y.row || is_among (rows_in span xs) t.row) (sym (tied_is t x e)) ∙ ap (λ b. b || is_among (rows_in span xs) t.row) (ap is_eq (tied_itself row_key_total t.row))
    by true false e f _ _ = absurd (true≢false (sym within ∙ ap (is_within span) (tied_is t x e) ∙ f))
    by false true e f rest more = or_right (eq_by_cmp row_key_cmp t.row x.row) (is_among (rows_in span xs) t.row) (more rest)
    by false false e f rest more = more rest

-- the rows that both parts of a list give
pub both_parts : (ts mid late : List TimedRow) (span : Span) (ordered : ℕ) (found first : List RowKey)
    → ((t : TimedRow) → is_within span t ≡ true → is_in (take ordered ts) t ≡ true → is_in mid t ≡ true)
    → late ≡ drop ordered ts → first ≡ [] ++ rows_in span mid → found ≡ first ++ rows_in span late
    → (time : ℕ) (row : RowKey) → is_in_span span time ≡ true → has_row (set.from_list ts) time row ≡ true → is_among found row ≡ true
both_parts ts mid late span ordered found first middle rest is_first is time row within there =
    ap (λ l. is_among l row) is ∙ list_any-append (eq_by_cmp row_key_cmp row) first _ ∙ by (is_in (take ordered ts) t) (is_in (drop ordered ts) t) refl refl (sym (in_both t ts ordered) ∙ sym (set.contains-from_list timed_total ts t) ∙ there)
  where
    t : TimedRow
    t = record { time = time; row = row }

    by : (a b : Bool) → is_in (take ordered ts) t ≡ a → is_in (drop ordered ts) t ≡ b → (a || b) ≡ true → (is_among first row || is_among (rows_in span late) row) ≡ true
    by true b e f _ = ap (λ k. k || is_among (rows_in span late) row) (ap (λ l. is_among l row) is_first ∙ named span mid t within (middle t within e))
    by false true e f _ = or_right (is_among first row) (is_among (rows_in span late) row) (named span late t within (ap (λ l. is_in l t) rest ∙ f))
    by false false e f or = cc

-- what a call ensures where it succeeds, once it is known to have
pub succeeded : {X E P : Type 0} (r : Result X E) → true ≡ is_ok r → OnOk r P → P
succeeded (Ok x) e p = p
succeeded (Err why) e p = cc
