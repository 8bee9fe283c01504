-- Lists of which each element is read behind the one before it.
use Rattle.std.proofs.Common.{◌≡◌, ℕ, true, ltb, nat_cmp, List, [], ◌∷◌, ◌++◌, map, Option, Some, None, refl, arith}
use Rattle.std.specs.List.{AllByRecursion}
use Rattle.std.specs.List.Sorted.{IsStrictlySortedBy}
use Rattle.std.specs.declared.cmp.Ordering.TheVariants.{Less}
use Rattle.std.proofs.lemmas.Bool.Decides.{nat_tests}
use Rattle.hk_answers.specs.Readers.{Chained}
use Rattle.hk_fragment_bytes.specs.Fragments.{number_follows}

-- the place of the last element, else the place before them all
abbrev pub last_of : {X P : Type 0} → (X → P) → Option P → List X → Option P
last_of place before [] = before
last_of place before (x ∷ xs) = last_of place (Some (place x)) xs

pub last_more : {X P : Type 0} (place : X → P) (before : Option P) (xs : List X) (x : X) → Some (place x) ≡ last_of place before (xs ++ x ∷ [])
last_more place before [] x = refl
last_more place before (y ∷ ys) x = last_more place (Some (place y)) ys x

pub chained_more : {X P : Type 0} (place : X → P) (Fit : Option P → X → Type 0) (before : Option P) (xs : List X) (x : X) → Chained place Fit before xs → Fit (last_of place before xs) x → Chained place Fit before (xs ++ x ∷ [])
chained_more place Fit before [] x h f = (f, tt)
chained_more place Fit before (y ∷ ys) x h f = (h.0, chained_more place Fit (Some (place y)) ys x h.1 f)

-- all of them are above the place before them
abbrev Above : Option ℕ → List ℕ → Type 0
Above None ks = Unit {0}
Above (Some b) ks = AllByRecursion (λ k. nat_cmp b k ≡ Less) ks

less_trans : (a b c : ℕ) → ltb a b ≡ true → nat_cmp b c ≡ Less → nat_cmp a c ≡ Less
less_trans a b c l h = grind (arith, nat_tests)

below_each : (a b : ℕ) (ks : List ℕ) → ltb a b ≡ true → AllByRecursion (λ k. nat_cmp b k ≡ Less) ks → AllByRecursion (λ k. nat_cmp a k ≡ Less) ks
below_each a b [] l h = tt
below_each a b (k ∷ ks) l h = (less_trans a b k l h.0, below_each a b ks l h.1)

less_from : (a b : ℕ) → ltb a b ≡ true → nat_cmp a b ≡ Less
less_from a b l = grind (arith, nat_tests)

above_more : (before : Option ℕ) (k : ℕ) (ks : List ℕ) → number_follows before k ≡ true → AllByRecursion (λ q. nat_cmp k q ≡ Less) ks → Above before (k ∷ ks)
above_more None k ks f h = tt
above_more (Some b) k ks f h = (less_from b k f, below_each b k ks f h)

record Rise (before : Option ℕ) (ks : List ℕ) : Type 0 where
  pub above : Above before ks
  pub sorted : IsStrictlySortedBy nat_cmp ks

module _ {X : Type 0} (place : X → ℕ) (Fit : Option ℕ → X → Type 0) (follows : (before : Option ℕ) (x : X) → Fit before x → number_follows before (place x) ≡ true) where
  none_above : (before : Option ℕ) → Above before []
  none_above None = tt
  none_above (Some b) = tt

  rise : (before : Option ℕ) (xs : List X) → Chained place Fit before xs → Rise before (map place xs)
  unfolding IsStrictlySortedBy
  rise before [] h = record { above = none_above before; sorted = tt }
  rise before (x ∷ xs) h =
      let rest = rise (Some (place x)) xs h.1 in
      record { above = above_more before (place x) (map place xs) (follows before x h.0) rest.above; sorted = (rest.above, rest.sorted) }

  -- their places rise strictly
  pub places_rise : (xs : List X) → Chained place Fit None xs → IsStrictlySortedBy nat_cmp (map place xs)
  places_rise xs h = (rise None xs h).sorted
