-- The items of an input.
use Rattle.std.specs.Prelude.{◌≡◌, ℕ, List, [], ◌++◌, Result, Ok}
use Rattle.hk_types.specs.declared.faults.FormFault.{FormFault}
use Rattle.hk_cli_input.specs.Taking.{TookMore, TookFront}

-- what a text is read as so far: these, and what is left, or the fault of what follows them
abbrev pub Reading : Type 0 → Type 1
Reading X = List ℕ → List X → Result (List ℕ) FormFault → Type 0

-- what frames add to a list is what they are read as
abbrev pub AddsRead : {X : Type 0} → (List X → List X → List ℕ → Result (List ℕ) FormFault → Type 0) → Reading X → Type 0
AddsRead {X} adds reads =
    (before after : List X) (text : List ℕ) (left : Result (List ℕ) FormFault) → adds before after text left → (more : List X) × (after ≡ before ++ more) × reads text more left

-- the items that all of the bytes encode were taken
abbrev pub TookItems : {T X : Type 0} → Reading X → (T → List X → T → Type 0) → T → T → List ℕ → Type 0
TookItems {T} {X} reads took old new bytes = (items : List X) × reads bytes items (Ok []) × TookMore took old new items

-- of the items that a front of the bytes encodes a front was taken
abbrev pub TookFirstItems : {T X : Type 0} → Reading X → (T → List X → T → Type 0) → T → T → List ℕ → Type 0
TookFirstItems {T} {X} reads took old new bytes =
    (front rest : List ℕ) × (bytes ≡ front ++ rest) × (items : List X) × (left : Result (List ℕ) FormFault) × reads front items left × TookFront took old new items

-- Where a reading of items stands: behind these bytes all their items are taken, and less than a frame is left.
abbrev pub Stands : {T X : Type 0} → Reading X → (T → List X → T → Type 0) → T → T → List ℕ → Result (List ℕ) FormFault → Type 0
Stands {T} {X} reads took start now bytes left =
    (rest : List ℕ) × (left ≡ Ok rest) × (items : List X) × reads bytes items left × TookMore took start now items

-- wherever it stood, it stands behind these bytes now
abbrev pub GoesOn : {T X : Type 0} → Reading X → (T → List X → T → Type 0) → T → T → Result (List ℕ) FormFault → Result (List ℕ) FormFault → List ℕ → Type 0
GoesOn {T} reads took old new left left_after more =
    (start : T) (bytes : List ℕ) → Stands reads took start old bytes left → Stands reads took start new (bytes ++ more) left_after

-- wherever it stood, a front of the items is taken now, with these bytes
abbrev pub BreaksOff : {T X : Type 0} → Reading X → (T → List X → T → Type 0) → T → T → Result (List ℕ) FormFault → List ℕ → Type 0
BreaksOff {T} reads took old new left more =
    (start : T) (bytes : List ℕ) → Stands reads took start old bytes left → TookFirstItems reads took start new (bytes ++ more)
