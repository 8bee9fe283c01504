-- The items of pieces that come one after the other.
use Rattle.std.proofs.Common.{◌≡◌, ℕ, List, [], ◌∷◌, ◌++◌, Result, Ok, Err, is_ok, true, ◌⊎◌, refl, sym, ap, subst, ◌∙◌, append_assoc, append-nil, arith, inl, inr}
use Rattle.hk_types.specs.declared.faults.FormFault.{FormFault}
use Rattle.hk_types.specs.declared.faults.Refusal.{Refusal}
use Rattle.hk_frames.specs.Framing.{PiecesJoin, last_answer, answer, Feeds, KeepsOnMemory}
use Rattle.hk_types.specs.declared.faults.Refusal.TheVariants as refusals
use Rattle.hk_cli_input.specs.Taking.{TookMore, TookFront}
use Rattle.hk_cli_input.specs.Items.{Reading, AddsRead, TookItems, TookFirstItems, Stands, GoesOn, BreaksOff}
use Rattle.hk_cli_input.proofs.Took.{took_no_more, took_both, front_behind}

pub stands_start : {T X : Type 0} (reads : Reading X) (took : T → List X → T → Type 0) (a : T) (left : Result (List ℕ) FormFault) → reads [] [] (Ok []) → left ≡ Ok [] → Stands reads took a a [] left
stands_start reads took a left none is = ([], is, [], subst (reads [] []) (sym is) none, took_no_more took a)

-- what was taken where a reading stands
pub first_here : {T X : Type 0} (reads : Reading X) (took : T → List X → T → Type 0) (start a : T) (bytes : List ℕ) (left : Result (List ℕ) FormFault) → Stands reads took start a bytes left → TookFirstItems reads took start a bytes
first_here reads took start a bytes left s =
    (bytes, [], sym (append-nil bytes), s.2, left, s.3, (s.2, [], sym (append-nil s.2), s.4))

-- no byte was read
pub nothing_yet : {T X : Type 0} (reads : Reading X) (took : T → List X → T → Type 0) (a : T) → reads [] [] (Ok []) → TookFirstItems reads took a a []
nothing_yet reads took a none = first_here reads took a a [] (Ok []) (stands_start reads took a (Ok []) none refl)

-- a feeder took a piece, and its items are in a list that was empty
abbrev Adding : Type 0 → Type 1
Adding X = List X → List X → List ℕ → Result (List ℕ) FormFault → Type 0

-- what is added to nothing is read
added_all : {X : Type 0} (adds : Adding X) (reads : Reading X) → AddsRead adds reads → (before items : List X) (text : List ℕ) (left : Result (List ℕ) FormFault) → before ≡ [] → adds before items text left → reads text items left
added_all {X} adds reads so before items text left empty h =
    let m = so before items text left h in
    subst (λ (l : List X). reads text l left) (sym (m.1 ∙ ap (λ (l : List X). l ++ m.0) empty)) m.2

no_fault : (new : Result (List ℕ) FormFault) (result : Result (Unit {0}) Refusal) → result ≡ answer new → is_ok result ≡ true → (left : List ℕ) × (new ≡ Ok left)
no_fault (Ok left) result is good = (left, refl)
no_fault (Err fault) result is good = cc

-- what a feeder that answers `Ok` read
reads_on : {X : Type 0} (adds : Adding X) (reads : Reading X) → AddsRead adds reads → (old new : Result (List ℕ) FormFault) (before items : List X) (piece rest : List ℕ) (result : Result (Unit {0}) Refusal) → before ≡ [] → Feeds adds old new before items piece result → is_ok result ≡ true → old ≡ Ok rest
    → (left : List ℕ) × (new ≡ Ok left) × reads (rest ++ piece) items new
reads_on adds reads so old new before items piece rest result empty fed good is = cases (fed rest is)
  where
    cases : (result ≡ Err refusals.Memory) ⊎ ((result ≡ answer new) × adds before items (rest ++ piece) new) → (left : List ℕ) × (new ≡ Ok left) × reads (rest ++ piece) items new
    cases (inl full) = cc
    cases (inr h) =
        let left = no_fault new result h.0 good in
        (left.0, left.1, added_all adds reads so before items (rest ++ piece) new empty h.1)

pub goes_on : {T X : Type 0} (adds : Adding X) (reads : Reading X) (took : T → List X → T → Type 0) (a b : T) (old new : Result (List ℕ) FormFault) (before items : List X) (piece : List ℕ) (result : Result (Unit {0}) Refusal)
    → AddsRead adds reads → PiecesJoin reads → before ≡ [] → Feeds adds old new before items piece result → is_ok result ≡ true → TookMore took a b items → GoesOn reads took a b old new piece
goes_on adds reads took a b old new before items piece result so join empty fed good more start bytes s =
    let read = reads_on adds reads so old new before items piece s.0 result empty fed good s.1 in
    (read.0, read.1, s.2 ++ items, join bytes piece s.0 s.2 items new (subst (reads bytes s.2) s.1 s.3) read.2, took_both took start a b s.2 items s.4 more)

pub breaks_off : {T X : Type 0} (adds : Adding X) (reads : Reading X) (took : T → List X → T → Type 0) (a b : T) (old new : Result (List ℕ) FormFault) (before items : List X) (piece : List ℕ) (result : Result (Unit {0}) Refusal)
    → AddsRead adds reads → PiecesJoin reads → before ≡ [] → Feeds adds old new before items piece result → KeepsOnMemory old new before items result → TookFront took a b items → BreaksOff reads took a b old piece
breaks_off {T} {X} adds reads took a b old new before items piece result so join empty fed keeps front start bytes s = cases (fed s.0 s.1)
  where
    taken : TookFront took start b (s.2 ++ items)
    taken = front_behind took start a b s.2 items s.4 front

    cases : (result ≡ Err refusals.Memory) ⊎ ((result ≡ answer new) × adds before items (s.0 ++ piece) new) → TookFirstItems reads took start b (bytes ++ piece)
    cases (inl full) =
        let none : items ≡ [] = (keeps full).1 ∙ empty in
        (bytes, piece, refl, s.2 ++ items, old, subst (λ (l : List X). reads bytes l old) (sym (append-nil s.2) ∙ ap (λ (l : List X). s.2 ++ l) (sym none)) s.3, taken)
    cases (inr h) =
        let added : reads (s.0 ++ piece) items new = added_all adds reads so before items (s.0 ++ piece) new empty h.1 in
        (bytes ++ piece, [], sym (append-nil (bytes ++ piece)), s.2 ++ items, new, join bytes piece s.0 s.2 items new (subst (reads bytes s.2) s.1 s.3) added, taken)

-- at the end nothing is left
none_left : (left : Result (List ℕ) FormFault) (result : Result (Unit {0}) Refusal) → result ≡ last_answer left → is_ok result ≡ true → left ≡ Ok []
none_left (Ok []) result is good = refl
none_left (Ok (b ∷ rest)) result is good = cc
none_left (Err fault) result is good = cc

pub all_items : {T X : Type 0} (reads : Reading X) (took : T → List X → T → Type 0) (start a : T) (bytes : List ℕ) (left : Result (List ℕ) FormFault) (result : Result (Unit {0}) Refusal) → Stands reads took start a bytes left → result ≡ last_answer left
    → is_ok result ≡ true → TookItems reads took start a bytes
all_items reads took start a bytes left result s is good = (s.2, subst (reads bytes s.2) (none_left left result is good) s.3, s.4)

-- ---- a piece in parts

pub goes_nowhere : {T X : Type 0} (reads : Reading X) (took : T → List X → T → Type 0) (a : T) (left : Result (List ℕ) FormFault) → GoesOn reads took a a left left []
goes_nowhere reads took a left start bytes s = subst (λ (l : List ℕ). Stands reads took start a l left) (sym (append-nil bytes)) s

pub goes_further : {T X : Type 0} (reads : Reading X) (took : T → List X → T → Type 0) (a b c : T) (left left_then left_last : Result (List ℕ) FormFault) (front part : List ℕ)
    → GoesOn reads took a b left left_then front → GoesOn reads took b c left_then left_last part → GoesOn reads took a c left left_last (front ++ part)
goes_further reads took a b c left left_then left_last front part first second start bytes s =
    subst (λ (l : List ℕ). Stands reads took start c l left_last) (append_assoc bytes front part) (second start (bytes ++ front) (first start bytes s))

pub breaks_further : {T X : Type 0} (reads : Reading X) (took : T → List X → T → Type 0) (a b c : T) (left left_then : Result (List ℕ) FormFault) (front part rest : List ℕ)
    → GoesOn reads took a b left left_then front → BreaksOff reads took b c left_then part → BreaksOff reads took a c left (front ++ (part ++ rest))
breaks_further reads took a b c left left_then front part rest first second start bytes s =
    let broke = second start (bytes ++ front) (first start bytes s) in (
      broke.0,
      broke.1 ++ rest,
      (ap (λ (l : List ℕ). bytes ++ l) (sym (append_assoc front part rest)) ∙ (sym (append_assoc bytes (front ++ part) rest)
          ∙ ap (λ (l : List ℕ). l ++ rest) (sym (append_assoc bytes front part) ∙ broke.2))) ∙ append_assoc broke.0 broke.1 rest,
      broke.3,
      broke.4,
      broke.5,
      broke.6,
    )
