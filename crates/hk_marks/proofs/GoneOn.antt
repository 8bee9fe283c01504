-- Numbers that go on from a prefix without a gap.
use Rattle.std.proofs.Common.{◌≡◌, refl, sym, ap, ◌∙◌, ℕ, ◌-◌, ◌<◌, ◌≤◌, ◌+◌, ◌^◌, Bool, true, false, Some, List, [], ◌∷◌, length, ◌||◌, ◌&&◌, ltb, leb, nat_cmp, arith, max, nat_le, true≢false}
use Rattle.std.proofs.lemmas.Bool.Decides.{nat_tests}
use Rattle.std.specs.Cmp.{nat_cmp_total}
use Rattle.std.specs.List.{slice_get}
use Rattle.std.specs.BTreeMap.{BTreeMap}
use Rattle.std.specs.FinMap as finmap
use Rattle.std.specs.FinSet as set
use Rattle.hk_numbers.proofs.SeenRuns.{contains-span}
use Rattle.hk_numbers.specs.Runs.{span, numbers_in, numbers_seen}
use Rattle.hk_marks.proofs.StoredStreams.{contains-taken_seen, contains-up_to}
use Rattle.hk_marks.specs.Parts.{GoesOn}
use Rattle.hk_marks.specs.Seen.{up_to, taken_seen, IsExtra}

or_none : (b : Bool) → (b || false) ≡ b
or_none true = refl
or_none false = refl

same_run : (x y : ℕ × ℕ) → ◌≡◌ (Some x) (Some y) → x ≡ y
same_run x y e = cc

in_one : (es : List (ℕ × ℕ)) (a e q : ℕ) → slice_get es 0 ≡ Some (a, e) → length es ≤ 1 → set.contains (numbers_in es) q ≡ (leb a q && ltb q e)
in_one [] a e q first one = cc
in_one (x ∷ []) a e q first one =
    let is : x ≡ (a, e) = same_run x (a, e) first in
    set.contains-union nat_cmp_total (span x.0 x.1) set.empty q
    ∙ (λ i. contains-span x.0 x.1 q i || set.contains-empty nat_cmp q i)
    ∙ or_none (leb x.0 q && ltb q x.1)
    ∙ (λ i. leb (is i).0 q && ltb q (is i).1)
in_one (x ∷ y ∷ es) a e q first one = absurd (omega arith)

-- one run has the numbers from its first on that are below its end
pub contains-one : (runs : BTreeMap ℕ ℕ) (a e q : ℕ) → slice_get runs.entries 0 ≡ Some (a, e) → length runs.entries ≤ 1 → set.contains (numbers_seen runs) q ≡ (leb a q && ltb q e)
unfolding numbers_seen
contains-one runs a e q first one = in_one runs.entries a e q first one

up_to_end : (p a e q : ℕ) → a ≤ p + 1 → p < q → (leb a q && ltb q e) ≡ nat_le q (max (p + 1) e - 1)
up_to_end p a e q near above = grind (arith, nat_tests)

-- one run that begins no later than the next number goes on up to its end
pub run_goes_on : (p n : ℕ) (runs : BTreeMap ℕ ℕ) (a e : ℕ) → slice_get runs.entries 0 ≡ Some (a, e) → length runs.entries ≤ 1 → a ≤ p + 1 → n ≡ max (p + 1) e → GoesOn p (n - 1) (numbers_seen runs)
run_goes_on p n runs a e first one near is q above = contains-one runs a e q first one ∙ up_to_end p a e q near above ∙ ap (λ k. nat_le q (k - 1)) (sym is)

not_up_to : (p q : ℕ) → p < q → false ≡ nat_le q p
not_up_to p q above = grind (arith, nat_tests)

-- no numbers go on up to the prefix itself
pub none_go_on : (p : ℕ) (numbers : set.FinSet nat_cmp) → numbers ≡ set.empty → GoesOn p p numbers
none_go_on p numbers is q above = ap (λ (s : set.FinSet nat_cmp). set.contains s q) is ∙ set.contains-empty nat_cmp q ∙ not_up_to p q above

-- a tree of no length has no numbers
pub no_entries : (es : List (ℕ × ℕ)) → (0 < length es → ⊥) → es ≡ []
no_entries [] none = refl
no_entries (x ∷ xs) none = absurd (none (omega arith))

-- numbers that go on without a gap are all up to where they reach
pub gone_on : (p r n : ℕ) (more rest : set.FinSet nat_cmp) → IsExtra r more → GoesOn (max p r) n more → max p r ≤ n → rest ≡ set.empty → set.union (up_to p) (taken_seen n rest) ≡ set.union (up_to p) (taken_seen r more)
gone_on p r n more rest above on grows is = set.same_set nat_cmp_total finmap.nat_cmp-IsAntisymmetric _ _ (λ q.
    set.contains-union nat_cmp_total (up_to p) (taken_seen n rest) q
    ∙ (λ i. contains-up_to p q i || contains-taken_seen n rest q i)
    ∙ ap (λ b. (ltb 0 q && leb q p) || ((ltb 0 q && leb q n) || b)) (ap (λ (s : set.FinSet nat_cmp). set.contains s q) is ∙ set.contains-empty nat_cmp q)
    ∙ regroup q (set.contains more q) (λ e. (above q e).0) (on q)
    ∙ (λ i. sym (contains-up_to p q) i || sym (contains-taken_seen r more q) i)
    ∙ sym (set.contains-union nat_cmp_total (up_to p) (taken_seen r more) q))
  where
    regroup : (q : ℕ) (x : Bool) → (x ≡ true → r + 1 < q) → (max p r < q → x ≡ nat_le q n) → ((ltb 0 q && leb q p) || ((ltb 0 q && leb q n) || false)) ≡ ((ltb 0 q && leb q p) || ((ltb 0 q && leb q r) || x))
    regroup q true far on = let l = far refl in by (leb q p) refl
      where
        by : (b : Bool) → leb q p ≡ b → ((ltb 0 q && b) || ((ltb 0 q && leb q n) || false)) ≡ ((ltb 0 q && b) || ((ltb 0 q && leb q r) || true))
        by true e = grind (arith, nat_tests)
        by false e = let beyond : max p r < q = grind (arith, nat_tests) in let there : nat_le q n ≡ true = sym (on beyond) in grind (arith, nat_tests)
    regroup q false far on = by (leb q (max p r)) refl
      where
        by : (b : Bool) → leb q (max p r) ≡ b → ((ltb 0 q && leb q p) || ((ltb 0 q && leb q n) || false)) ≡ ((ltb 0 q && leb q p) || ((ltb 0 q && leb q r) || false))
        by true e = grind (arith, nat_tests)
        by false e = let beyond : max p r < q = grind (arith, nat_tests) in let there : nat_le q n ≡ false = sym (on beyond) in grind (arith, nat_tests)

-- numbers that are the same beside a prefix are the same beside it and the extra ones
pub joined_alike : (p : ℕ) (extra t u : set.FinSet nat_cmp) → set.union (up_to p) t ≡ set.union (up_to p) u → set.union (taken_seen p extra) t ≡ set.union (taken_seen p extra) u
joined_alike p extra t u same = set.same_set nat_cmp_total finmap.nat_cmp-IsAntisymmetric _ _ (λ q.
    set.contains-union nat_cmp_total (taken_seen p extra) t q
    ∙ ap (λ b. b || set.contains t q) (contains-taken_seen p extra q)
    ∙ beside (ltb 0 q && leb q p) (set.contains extra q) (set.contains t q) (set.contains u q)
    ((λ i. sym (contains-up_to p q) i || set.contains t q) ∙ sym (set.contains-union nat_cmp_total (up_to p) t q) ∙ ap (λ (s : set.FinSet nat_cmp). set.contains s q) same ∙ set.contains-union nat_cmp_total (up_to p) u q ∙ (λ i. contains-up_to p q i || set.contains u q))
    ∙ ap (λ b. b || set.contains u q) (sym (contains-taken_seen p extra q))
    ∙ sym (set.contains-union nat_cmp_total (taken_seen p extra) u q))
  where
    beside : (a x t u : Bool) → (a || t) ≡ (a || u) → ((a || x) || t) ≡ ((a || x) || u)
    beside true x t u e = refl
    beside false true t u e = refl
    beside false false t u e = e
