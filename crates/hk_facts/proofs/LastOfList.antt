-- The last of a list that passes a test, found by going back from its end.
use Rattle.std.proofs.Common.{◌≡◌, refl, sym, ap, ◌∙◌, ℕ, Bool, true, false, cond, not, ◌&&◌, Option, Some, None, List, [], ◌∷◌, ◌++◌, filter, nat_cmp, leb, arith}
use Rattle.std.proofs.lemmas.Bool.Decides.{nat_tests}
use Rattle.std.specs.Option.{is_some}
use Rattle.std.specs.Ordering.{is_lt}
use Rattle.hk_model.specs.Replica.Maps.{or_else}
use Rattle.hk_types.specs.Values.{RowValue}
use Rattle.hk_log.specs.Versions.{VersionValue}
use Rattle.hk_facts.specs.Chains.{last_where}

module _ {A : Type 0} where
  pub last_where-push : (q : A → Bool) (xs : List A) (x : A) → last_where q (xs ++ x ∷ []) ≡ cond (q x) (Some x) (last_where q xs)
  last_where-push q [] x = refl
  last_where-push q (y ∷ ys) x =
      ap (λ o. or_else o (cond (q y) (Some y) None)) (last_where-push q ys x)
      ∙ push (q x) (last_where q ys) (cond (q y) (Some y) None)
    where
      push : (b : Bool) (o r : Option A) → or_else (cond b (Some x) o) r ≡ cond b (Some x) (or_else o r)
      push true o r = refl
      push false o r = refl

  pub last_where-filter : (p q : A → Bool) (xs : List A) → last_where (λ x. p x && q x) xs ≡ last_where q (filter p xs)
  last_where-filter p q [] = refl
  last_where-filter p q (x ∷ xs) =
      ap (λ o. or_else o (cond (p x && q x) (Some x) None)) (last_where-filter p q xs)
      ∙ elim (p x) as (λ b. or_else (last_where q (filter p xs)) (cond (b && q x) (Some x) None) ≡ last_where q (cond b (x ∷ filter p xs) (filter p xs))) [
        | true ↦ refl
        | false ↦ or_none (last_where q (filter p xs))
      ]
    where
      or_none : (o : Option A) → or_else o None ≡ o
      or_none None = refl
      or_none (Some y) = refl

  pub last_where-same : (p q : A → Bool) → ((x : A) → p x ≡ q x) → (xs : List A) → last_where p xs ≡ last_where q xs
  last_where-same p q is [] = refl
  last_where-same p q is (x ∷ xs) = λ i. or_else (last_where-same p q is xs i) (cond (is x i) (Some x) None)

-- whether the row of a version is known
abbrev pub has_row : ℕ × VersionValue → Bool
has_row e = is_some e.1.row

-- a range up to t has what was born at most at t
pub latest_in_range : (t : ℕ) (es range : List (ℕ × VersionValue)) → range ≡ filter (λ e. not (is_lt (nat_cmp t e.0))) es → last_where (λ e. leb e.0 t && has_row e) es ≡ last_where has_row range
latest_in_range t es range is =
    last_where-same _ _ (λ e. ap (λ b. b && has_row e) (up_to e.0)) es
    ∙ last_where-filter (λ e. not (is_lt (nat_cmp t e.0))) has_row es
    ∙ ap (last_where has_row) (sym is)
  where
    up_to : (n : ℕ) → leb n t ≡ not (is_lt (nat_cmp t n))
    up_to n = grind (arith, nat_tests)

-- one step back, over a version with no row
pub step_back : (s r : List (ℕ × VersionValue)) (e : ℕ × VersionValue) → s ≡ r ++ e ∷ [] → None ≡ e.1.row → last_where has_row s ≡ last_where has_row r
step_back s r e is none = ap (last_where has_row) is ∙ last_where-push has_row r e ∙ ap (λ o. cond (is_some o) (Some e) (last_where has_row r)) (sym none)

-- or onto one with a row
pub step_onto : (s r : List (ℕ × VersionValue)) (e : ℕ × VersionValue) (row : RowValue) → s ≡ r ++ e ∷ [] → Some row ≡ e.1.row → last_where has_row s ≡ Some e
step_onto s r e row is has = ap (last_where has_row) is ∙ last_where-push has_row r e ∙ ap (λ o. cond (is_some o) (Some e) (last_where has_row r)) (sym has)
