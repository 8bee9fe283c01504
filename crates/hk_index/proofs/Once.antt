-- Lists in which each comes once.
use Rattle.std.proofs.Common.{◌≡◌, refl, sym, ap, ◌∙◌, Bool, true, false, cond, ◌||◌, List, [], ◌∷◌}
use Rattle.std.proofs.lemmas.List.Sorted.{list_any-IsPermutation}
use Rattle.std.specs.Cmp.{Equal-is}
use Rattle.std.specs.declared.cmp.Ordering.{Ordering}
use Rattle.std.specs.List.{dedup, dedup_from, list_any}
use Rattle.std.specs.List.Sorted.{IsPermutation}
use Rattle.std.specs.Ordering.{eq_by_cmp}
use Rattle.std.specs.FinMap as finmap

module _ {X : Type 0} (R : X → X → Ordering) (same : finmap.IsAntisymmetric R) (E : X → X → Bool) (ties : (x y : X) → E x y ≡ eq_by_cmp R x y) where
  abbrev is_there : X → List X → Bool
  is_there q xs = list_any (eq_by_cmp R q) xs

  there_from : (q : X) (xs : List X) (k : X) → is_there q (dedup_from E k xs) ≡ (eq_by_cmp R q k || is_there q xs)
  there_from q [] k = refl
  there_from q (x ∷ xs) k = by (E x k) refl (there_from q xs k) (there_from q xs x)
    where
      twice : (a b : Bool) → (a || b) ≡ (a || (a || b))
      twice true b = refl
      twice false b = refl

      by : (b : Bool) → E x k ≡ b → is_there q (dedup_from E k xs) ≡ (eq_by_cmp R q k || is_there q xs) → is_there q (dedup_from E x xs) ≡ (eq_by_cmp R q x || is_there q xs)
          → is_there q (cond b (dedup_from E k xs) (k ∷ dedup_from E x xs)) ≡ (eq_by_cmp R q k || (eq_by_cmp R q x || is_there q xs))
      by true e this other = this ∙ twice (eq_by_cmp R q k) (is_there q xs) ∙ ap (λ m. eq_by_cmp R q k || (eq_by_cmp R q m || is_there q xs)) (sym (same x k ((Equal-is (R x k)).0 (sym (ties x k) ∙ e))))
      by false e this other = ap (λ b. eq_by_cmp R q k || b) other

  there_once : (q : X) (xs : List X) → is_there q (dedup E xs) ≡ is_there q xs
  there_once q [] = refl
  there_once q (x ∷ xs) = there_from q xs x

  -- a list that was sorted, and in which each comes once, has the same
  pub sorted_once : (found sorted once : List X) → IsPermutation found sorted → once ≡ dedup E sorted → (q : X) → is_there q once ≡ is_there q found
  sorted_once found sorted once moved is q = ap (is_there q) is ∙ there_once q sorted ∙ sym (list_any-IsPermutation (eq_by_cmp R q) found sorted moved)
