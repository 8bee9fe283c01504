-- The last row of a list has its last key.
use Rattle.std.proofs.Common.{◌≡◌, ℕ, ◌-◌, List, [], ◌∷◌, length, Option, Some, ap, ◌∙◌, arith}
use Rattle.std.specs.List.{slice_get}
use Rattle.hk_types.specs.Values.{RowValue}
use Rattle.hk_query.specs.Pages.{last_key_after}

abbrev Keyed : Type 0
Keyed = ℕ × RowValue

abbrev some_of : {X : Type 0} → X → Option X
some_of x = Some x

some_is : {X : Type 0} (x y : X) → some_of x ≡ some_of y → x ≡ y
some_is x y e = cc

last_from : (key : ℕ) (x : Keyed) (rows : List Keyed) (y : Keyed) → some_of y ≡ slice_get (x ∷ rows) (length rows) → y.0 ≡ last_key_after key (x ∷ rows)
last_from key x [] y e = ap (λ (z : Keyed). z.0) (some_is y x e)
last_from key x (z ∷ rows) y e = last_from x.0 z rows y e

pub last_key_is : (key : ℕ) (rows : List Keyed) (y : Keyed) → some_of y ≡ slice_get rows (length rows - 1) → y.0 ≡ last_key_after key rows
last_key_is key [] y e = absurd cc
last_key_is key (x ∷ rows) y e =
    let n : length (x ∷ rows) - 1 ≡ length rows = omega arith in
    last_from key x rows y (e ∙ ap (slice_get (x ∷ rows)) n)
