-- Reading elements one after the other, as a loop does.
use Rattle.std.proofs.Common.{◌≡◌, ℕ, suc, ◌-◌, ◌+◌, ◌≤◌, ◌<◌, List, [], ◌∷◌, ◌++◌, Option, Some, Result, Ok, Err, refl, sym, ap, ◌∙◌, append_assoc, arith}
use Rattle.std.proofs.lemmas.List.{append-nil}
use Rattle.hk_types.specs.declared.faults.FormFault.{FormFault}
use Rattle.hk_frames.specs.declared.cursor.ReadError.{ReadError}
use Rattle.hk_frames.specs.declared.cursor.ReadError.TheVariants.{Memory, Fault}
use Rattle.hk_frames.specs.Fields.{◌>>=◌, Fails, list_at}

-- what was read before, and what is still read
abbrev pub with_front : {X : Type 0} → List X → Result (List X × List ℕ) FormFault → Result (List X × List ℕ) FormFault
with_front front read = read >>= λ x. Ok (front ++ x.0, x.1)

regroup : {X : Type 0} (front : List X) (x : X) (read : Result (List X × List ℕ) FormFault) → with_front front (read >>= λ y. Ok (x ∷ y.0, y.1)) ≡ with_front (front ++ x ∷ []) read
regroup front x (Ok y) = ap (λ zs. Ok (zs, y.1)) (simp append_assoc)
regroup front x (Err f) = refl

-- a reader of one element, told the place before it
abbrev pub One : Type 0 → Type 0 → Type 0
One X P = Option P → List ℕ → Result (X × List ℕ) FormFault

pub goes_on : {X P : Type 0} (place : X → P) (one : One X P) (front : List X) (count i : ℕ) (before : Option P) (bytes : List ℕ) (x : X) (after : List ℕ) (total : Result (List X × List ℕ) FormFault) → i < count → one before bytes ≡ Ok (x, after)
    → with_front front (list_at place one (count - i) before bytes) ≡ total → with_front (front ++ x ∷ []) (list_at place one (count - (i + 1)) (Some (place x)) after) ≡ total
unfolding list_at
goes_on place one front count i before bytes x after total lt h so_far =
    let k : count - i ≡ suc (count - (i + 1)) = omega arith in
    let step : with_front front (list_at place one (count - i) before bytes) ≡ with_front (front ++ x ∷ []) (list_at place one (count - (i + 1)) (Some (place x)) after) = rw (k, h) (regroup front x (list_at place one (count - (i + 1)) (Some (place x)) after)) in
    sym step ∙ so_far

pub ends : {X P : Type 0} (place : X → P) (one : One X P) (e : ReadError) (front : List X) (count i : ℕ) (before : Option P) (bytes : List ℕ) (total : Result (List X × List ℕ) FormFault) → i < count → Fails e (one before bytes)
    → with_front front (list_at place one (count - i) before bytes) ≡ total → Fails e total
unfolding list_at
ends place one Memory front count i before bytes total lt h so_far = tt
ends place one (Fault f) front count i before bytes total lt h so_far =
    let k : count - i ≡ suc (count - (i + 1)) = omega arith in
    let step : with_front front (list_at place one (count - i) before bytes) ≡ Err f = rw (k, h) refl in
    sym so_far ∙ step

pub is_done : {X P : Type 0} (place : X → P) (one : One X P) (front : List X) (count i : ℕ) (before : Option P) (bytes : List ℕ) (total : Result (List X × List ℕ) FormFault) → count ≤ i → with_front front (list_at place one (count - i) before bytes) ≡ total → total ≡ Ok (front, bytes)
unfolding list_at
is_done place one front count i before bytes total le so_far =
    let k : count - i ≡ 0 = omega arith in
    let step : with_front front (list_at place one (count - i) before bytes) ≡ Ok (front, bytes) = rw k (ap (λ xs. Ok (xs, bytes)) (append-nil front)) in
    sym so_far ∙ step
