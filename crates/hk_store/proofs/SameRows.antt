-- Rows that are alike are one row.
use Rattle.std.proofs.Common.{◌≡◌, refl, sym, ℕ, true, ◌==◌, List, [], ◌∷◌, true≢false, eqb-true}
use Rattle.std.proofs.lemmas.Bool.{and_parts}
use Rattle.std.specs.Cmp.Lexicographic.{pointwise}
use Rattle.hk_types.specs.Values.{RowValue, same_row}

same_bytes : (xs ys : List ℕ) → pointwise (λ x y. x == y) xs ys ≡ true → xs ≡ ys
same_bytes [] [] e = refl
same_bytes [] (y ∷ ys) e = absurd (true≢false (sym e))
same_bytes (x ∷ xs) [] e = absurd (true≢false (sym e))
same_bytes (x ∷ xs) (y ∷ ys) e =
    let parts = and_parts (x == y) (pointwise (λ x y. x == y) xs ys) e in
    λ i. eqb-true x y parts.0 i ∷ same_bytes xs ys parts.1 i

pub same_value : (a b : RowValue) → same_row a b ≡ true → a ≡ b
same_value a b e =
    let parts = and_parts (a.tag == b.tag) (pointwise (λ x y. x == y) a.body b.body) e in
    let tag = eqb-true a.tag b.tag parts.0 in
    let body = same_bytes a.body b.body parts.1 in
    λ i. record { tag = tag i; body = body i }
