-- What a step of a room keeps of its budget.
use Rattle.std.proofs.Common.{◌≡◌, ℕ, zero, suc, ◌+◌, ◌-◌, ◌<◌, ◌≤◌, ◌%◌, set, List, [], ◌∷◌, ◌++◌, sum, sum_by, refl, sym, ap, subst, ◌∙◌, arith, slice_index, ◌==◌, MatchBool, Bool, true, false, mod-eq_of_lt}
use Rattle.std.proofs.lemmas.List.Sums.{sum_by-cons, sum_by-append}
use Rattle.std.proofs.lemmas.Bool.{eqb-true}
use mathlib.Core.Option.{some, some-injective, some-ne-none}
use lib.ListN.{get_elem?}
use prog.Atomic.{either}
use Rattle.atomic_table.specs.Table.{State, Allows, keeps}
use Rattle.hk_budgets.specs.Budgets.{AddsUp, Takes, Returns}

pub sum_set : (rooms : List ℕ) (id before after : ℕ) → get_elem? rooms id ≡ some before → sum (set rooms id after) + before ≡ sum rooms + after
sum_set [] id before after there = absurd (some-ne-none before (sym there))
sum_set (x ∷ xs) zero before after there =
    let same : x ≡ before = some-injective x before there in
    let old : sum (x ∷ xs) ≡ x + sum xs = sum_by-cons (λ n. n) x xs in
    let new : sum (after ∷ xs) ≡ after + sum xs = sum_by-cons (λ n. n) after xs in
    rw (old, new) (omega (arith, same))
sum_set (x ∷ xs) (suc id) before after there =
    let tail : sum (set xs id after) + before ≡ sum xs + after = sum_set xs id before after there in
    let old : sum (x ∷ xs) ≡ x + sum xs = sum_by-cons (λ n. n) x xs in
    let new : sum (x ∷ set xs id after) ≡ x + sum (set xs id after) = sum_by-cons (λ n. n) x (set xs id after) in
    rw (old, new) (omega (arith, tail))

pub sum_last : (rooms : List ℕ) → sum (rooms ++ 0 ∷ []) ≡ sum rooms
sum_last rooms = let both : sum (rooms ++ 0 ∷ []) ≡ sum rooms + sum (0 ∷ []) = sum_by-append (λ n. n) rooms (0 ∷ []) in let none : sum (0 ∷ []) ≡ 0 = refl in rw both (omega (arith, none))

-- what is left and what a room has are changed against one another
pub changed : (most : ℕ) (words rooms : List ℕ) (id before after left : ℕ) → (sums : AddsUp most words rooms) → get_elem? rooms id ≡ some before
    → left + after ≡ sums.left + before → AddsUp most (set words 0 left) (set rooms id after)
changed most words rooms id before after left sums there same =
    let total : sum (set rooms id after) + before ≡ sum rooms + after = sum_set rooms id before after there in
    let whole : sums.left + sum rooms ≡ most = sums.total in
    record { left = left; word = ap (λ (w : List ℕ). set w 0 left) sums.word; total = omega arith }

left_is : (most : ℕ) (words rooms : List ℕ) → (sums : AddsUp most words rooms) → slice_index words 0 ≡ sums.left
left_is most words rooms sums = ap (λ (w : List ℕ). slice_index w 0) sums.word

-- a room has at most what all have
below_all : (rooms : List ℕ) (id room : ℕ) → get_elem? rooms id ≡ some room → room ≤ sum rooms
below_all rooms id room there = let gone : sum (set rooms id 0) + room ≡ sum rooms + 0 = sum_set rooms id room 0 there in omega (arith, gone)

takes_so : (most id room old rest n : ℕ) (words rooms : List ℕ) → rest ≤ old → (sums : AddsUp most words rooms) → get_elem? rooms id ≡ some room → n ≡ sums.left → (b : Bool) → (n == old) ≡ b
    → (after : ℕ) × AddsUp most (set words 0 (either b rest n)) (set rooms id after) × MatchBool b (after + rest ≡ room + old) (after ≡ room)
takes_so most id room old rest n words rooms less sums there left true found =
    let same : n ≡ old = eqb-true n old found in
    (room + (old - rest), changed most words rooms id room (room + (old - rest)) rest sums there (omega (arith, same, left, less)), omega (arith, less))
takes_so most id room old rest n words rooms less sums there left false found =
    (room, changed most words rooms id room room n sums there (omega (arith, left)), refl)

pub takes : {S : Type 0} (most slots id room : ℕ) (out : List (ℕ × S)) (old rest : ℕ) → rest ≤ old
    → Allows {S = S} {V = ℕ} (λ (s : State S ℕ). AddsUp most s.words s.views) slots id (room, out) 0 (λ n. either (n == old) rest n) (λ n new. Takes old rest room n new.0 × (new.1 ≡ out))
takes most slots id room out old rest less s sums homes there small =
    let n : ℕ = slice_index s.words 0 in
    let so = takes_so most id room old rest n s.words s.views less sums there (left_is most s.words s.views sums) (n == old) refl in
    (so.0, keeps, tt, so.1, (so.2, refl))

pub returns : {S : Type 0} (most slots id room : ℕ) (out : List (ℕ × S)) (bytes : ℕ) → bytes ≤ room → most < 18446744073709551616
    → Allows {S = S} {V = ℕ} (λ (s : State S ℕ). AddsUp most s.words s.views) slots id (room, out) 0 (λ n. (n + bytes) % 18446744073709551616) (λ n new. Returns bytes room new.0 × (new.1 ≡ out))
returns most slots id room out bytes has fits s sums homes there small =
    let n : ℕ = slice_index s.words 0 in
    let left : n ≡ sums.left = left_is most s.words s.views sums in
    let below : room ≤ sum s.views = below_all s.views id room there in
    let total : sums.left + sum s.views ≡ most = sums.total in
    let whole : (n + bytes) % 18446744073709551616 ≡ n + bytes = mod-eq_of_lt (omega (arith, left, below, total, has, fits)) in
    let kept : AddsUp most (set s.words 0 (n + bytes)) (set s.views id (room - bytes)) = changed most s.words s.views id room (room - bytes) (n + bytes) sums there (omega (arith, left, has)) in
    (room - bytes, keeps, tt, subst (λ (k : ℕ). AddsUp most (set s.words 0 k) (set s.views id (room - bytes))) (sym whole) kept, (omega (arith, has), refl))
