-- The exchange that adds an operation keeps the rule of the book.
use Rattle.std.proofs.Common.{◌≡◌, ℕ, ◌+◌, ◌<◌, ◌==◌, Bool, true, false, List, [], ◌∷◌, ◌++◌, length, refl, ap, sym, subst, arith, inl, length-append, None}
use Rattle.std.proofs.lemmas.List.{append-nil}
use Rattle.std.proofs.lemmas.Bool.Decides.{nat_tests}
use Rattle.std.specs.Prelude.{MatchBool}
use mathlib.Core.List.{IsPrefix}
use prog.Atomic.{either}
use Rattle.logbook.specs.Pages.{Cell, cell, keeps, no_nib, step, Moves, Goes}
use Rattle.hk_oplog.specs.declared.op.Op.{Op}
use Rattle.hk_node.specs.Book.{IsCounted, Adds}
use Rattle.hk_node.proofs.Prefixes.{prefix_whole}

abbrev pub shown : List Op → List Op
shown log = []

abbrev pub moved : List Op → List Op → ℕ → Type 0
moved xs ys n = Unit {0}

adds_goes : (log v : List Op) (e : Op) (old n : ℕ) → length v ≡ old + 1 → n + 1 ≡ length log → IsPrefix v log
    → (b : Bool) → (n == old) ≡ b
    → Goes IsCounted shown moved 0 (v, (no_nib, None)) (λ k. either (k == old) (old + 1) k) (Adds (step 0 old (old + 1) e) (v, (no_nib, None))) ((n, true) ∷ []) log
adds_goes log v e old n len count pre true is =
    let here : n ≡ old = grind (arith, nat_tests) in
    let same : v ≡ log = prefix_whole v log pre (omega arith) in
    let m : either (n == old) (old + 1) n + 1 ≡ length (log ++ e ∷ []) = rw is (omega (arith, length-append log (e ∷ []))) in (
      keeps,
      e ∷ [],
      None,
      tt,
      (either (n == old) (old + 1) n, refl, m),
      inl (refl, refl),
      rw is (ap (λ w. w ++ e ∷ []) (sym same)),
    )
adds_goes log v e old n len count pre false is =
    let all : log ++ [] ≡ log = append-nil log in
    let m : either (n == old) (old + 1) n + 1 ≡ length (log ++ []) = rw (is, all) count in (
      keeps,
      [],
      None,
      tt,
      (either (n == old) (old + 1) n, refl, m),
      inl (refl, refl),
      rw is tt,
    )

-- whatever the book is, the exchange adds the operation to all that was seen, or finds that the list is longer
pub adds_moves : (v : List Op) (e : Op) (old : ℕ) → length v ≡ old + 1
    → Moves IsCounted shown moved 0 (v, (no_nib, None)) (λ n. either (n == old) (old + 1) n) (Adds (step 0 old (old + 1) e) (v, (no_nib, None)))
adds_moves v e old len cs log kept pre away =
    let P : List Cell → Type 0 = λ c. (0 < length c) × ((cell c 0).1 ≡ true) × Goes IsCounted shown moved 0 (v, (no_nib, None)) (λ n. either (n == old) (old + 1) n) (Adds (step 0 old (old + 1) e) (v, (no_nib, None))) c log in
    subst P (sym kept.1) (omega arith, refl, adds_goes log v e old kept.0 len kept.2 pre (kept.0 == old) refl)

-- the exchange found what it looked for
pub added : (found old : ℕ) (xs ys : List Op) (e : Op) → found ≡ old → MatchBool (found == old) (ys ≡ xs ++ e ∷ []) (Unit {0}) → ys ≡ xs ++ e ∷ []
added found old xs ys e here h =
    let t : (found == old) ≡ true = grind (arith, nat_tests) in
    subst (λ (b : Bool). MatchBool b (ys ≡ xs ++ e ∷ []) (Unit {0})) t h
