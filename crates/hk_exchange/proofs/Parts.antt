-- A list whose part from a place on was written.
use borrow.Rule.Slice.PartMut.{put_mid}
use Rattle.std.proofs.Common.{◌≡◌, ◌≤◌, ◌+◌, ◌-◌, ℕ, List, [], ◌++◌, length, take, drop, ap, ◌∙◌, append-nil, arith}
use Rattle.std.proofs.lemmas.List.{length-drop, length-take, drop_all}
use Rattle.std.proofs.Math.Seq.{drop-append-add, take-append_seam}

tail : (d : ℕ) (xs ys : List ℕ) → put_mid d (length xs - d) xs ys ≡ take d xs ++ ys
tail d xs ys =
    let none : drop (length xs - d) (drop d xs) ≡ [] = drop_all (length xs - d) (drop d xs) (omega (arith, length-drop d xs)) in
    ap (λ (zs : List ℕ). take d xs ++ (ys ++ zs)) none ∙ ap (λ (zs : List ℕ). take d xs ++ zs) (append-nil ys)

pub tail_drop : (d k : ℕ) (xs ys : List ℕ) → d ≤ length xs → drop (d + k) (put_mid d (length xs - d) xs ys) ≡ drop k ys
tail_drop d k xs ys few =
    let e : d ≡ length (take d xs) = omega (arith, length-take d xs) in
    ap (drop (d + k)) (tail d xs ys) ∙ (ap (λ (n : ℕ). drop (n + k) (take d xs ++ ys)) e ∙ drop-append-add (take d xs) ys k)

-- so many are taken as there were
pub taken_back : (n : ℕ) (xs ys : List ℕ) → n ≡ length xs → take n (xs ++ ys) ≡ xs
taken_back n xs ys e = ap (λ (i : ℕ). take i (xs ++ ys)) e ∙ take-append_seam xs ys
