-- What stands behind what was written begins the buffer once it is moved there.
use Rattle.std.proofs.Common.{◌≡◌, ◌≤◌, ◌+◌, ◌-◌, ℕ, List, length, take, drop, ap, ◌∙◌, arith}
use Rattle.std.proofs.lemmas.List.{take_rest, length-drop}
use Rattle.std.proofs.lemmas.List.Edits.{take-paste}
use Rattle.std.specs.List.{copy_within}

pub moved_down : (xs : List ℕ) (n : ℕ) → n ≤ length xs → take (length xs - n) (copy_within xs n (length xs) 0) ≡ drop n xs
moved_down xs n few =
    let fits : length xs - n ≤ length (drop n xs) = omega (arith, length-drop n xs) in
    let moved : take (0 + (length xs - n)) (copy_within xs n (length xs) 0) ≡ take (length xs - n) (drop n xs) = take-paste xs 0 (drop n xs) (length xs - n) (omega arith) fits in
    let none : length xs - n ≡ 0 + (length xs - n) = omega arith in
    ap (λ (i : ℕ). take i (copy_within xs n (length xs) 0)) none ∙ moved ∙ take_rest xs n
