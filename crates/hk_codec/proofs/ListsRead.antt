-- Lists of elements in order: what is read is written so, and what is written so is read again.
use Rattle.std.proofs.Common.{◌≡◌, ℕ, zero, suc, true, List, [], ◌∷◌, ◌++◌, length, map, Option, Some, Ok, refl, ap, subst, ◌∙◌, append_assoc}
use Rattle.std.specs.List.{flat_map, AllByRecursion}
use Rattle.std.proofs.lemmas.Bool.{and_from}
use Rattle.std.proofs.lemmas.List.Concat.{flat_map-cons}
use Rattle.hk_log.specs.Items.{is_after, rise_after}
use Rattle.hk_frames.specs.Fields.{IsBytes, ◌>>=◌, list_at}
use Rattle.hk_frames.proofs.ReadingLoop.{One}
use Rattle.hk_frames.proofs.ReadingSteps.{bind_ok, ok_is, both, Takes, Takes-then}

-- what a list of read elements is
pub record ListIs {X : Type 0} (place : X → ℕ × ℕ) (text : X → List ℕ) (Fit : X → Type 0) (n : ℕ) (before : Option (ℕ × ℕ)) (bytes : List ℕ) (xs : List X) (rest : List ℕ) : Type 0 where
  pub takes : Takes bytes (flat_map text xs) rest
  pub len : length xs ≡ n
  pub each : AllByRecursion Fit xs
  pub rising : rise_after before (map place xs) ≡ true

pub list_takes : {X : Type 0} (place : X → ℕ × ℕ) (one : One X (ℕ × ℕ)) (text : X → List ℕ) (Fit : X → Type 0)
    → ((before : Option (ℕ × ℕ)) (bytes : List ℕ) (x : X × List ℕ) → IsBytes bytes → one before bytes ≡ Ok x → Takes bytes (text x.0) x.1 × Fit x.0 × (is_after before (place x.0) ≡ true))
    → (n : ℕ) (before : Option (ℕ × ℕ)) (bytes : List ℕ) (x : List X × List ℕ) → IsBytes bytes → list_at place one n before bytes ≡ Ok x
    → ListIs place text Fit n before bytes x.0 x.1
unfolding list_at
list_takes {X = X} place one text Fit law zero before bytes x fits e =
    subst (λ (y : List X × List ℕ). ListIs place text Fit 0 before bytes y.0 y.1) {x = ([], bytes)} (ok_is ([], bytes) x e) (record { takes = record { parts = refl; rest_fits = fits }; len = refl; each = tt; rising = refl })
list_takes {X = X} place one text Fit law (suc n) before bytes x fits e =
    let a = bind_ok (one before bytes) (λ first. list_at place one n (Some (place first.0)) first.1 >>= λ others. Ok (first.0 ∷ others.0, others.1)) x e in
    let b = bind_ok (list_at place one n (Some (place a.0.0)) a.0.1) (λ others. Ok (a.0.0 ∷ others.0, others.1)) x a.2 in
    let first = law before bytes a.0 fits a.1 in
    let second = list_takes place one text Fit law n (Some (place a.0.0)) a.0.1 b.0 first.0.rest_fits b.1 in
    let both = Takes-then bytes (text a.0.0) a.0.1 (flat_map text b.0.0) b.0.1 first.0 second.takes in
    let whole : Takes bytes (flat_map text (a.0.0 ∷ b.0.0)) b.0.1 = rw flat_map-cons both in
    let rising : rise_after before (map place (a.0.0 ∷ b.0.0)) ≡ true = and_from _ _ first.2 second.rising in
    subst (λ (y : List X × List ℕ). ListIs place text Fit (suc n) before bytes y.0 y.1) {x = (a.0.0 ∷ b.0.0, b.0.1)} (ok_is (a.0.0 ∷ b.0.0, b.0.1) x b.2)
    (record { takes = whole; len = ap suc second.len; each = (first.1, second.each); rising = rising })

pub list_again : {X : Type 0} (place : X → ℕ × ℕ) (one : One X (ℕ × ℕ)) (text : X → List ℕ) (Fit : X → Type 0)
    → ((before : Option (ℕ × ℕ)) (x : X) (rest : List ℕ) → Fit x → is_after before (place x) ≡ true → one before (text x ++ rest) ≡ Ok (x, rest))
    → (xs : List X) (before : Option (ℕ × ℕ)) (rest : List ℕ) → AllByRecursion Fit xs → rise_after before (map place xs) ≡ true → list_at place one (length xs) before (flat_map text xs ++ rest) ≡ Ok (xs, rest)
unfolding list_at
list_again place one text Fit law [] before rest h rises = refl
list_again {X = X} place one text Fit law (x ∷ xs) before rest h rises =
    let b = both (is_after before (place x)) (rise_after (Some (place x)) (map place xs)) rises in
    let regrouped : flat_map text (x ∷ xs) ++ rest ≡ text x ++ (flat_map text xs ++ rest) = ap (λ (t : List ℕ). t ++ rest) (flat_map-cons text x xs) ∙ append_assoc (text x) (flat_map text xs) rest in
    ap (list_at place one (suc (length xs)) before) regrouped ∙ rw (law before x (flat_map text xs ++ rest) h.0 b.0, list_again place one text Fit law xs (Some (place x)) rest h.1 b.1) refl
