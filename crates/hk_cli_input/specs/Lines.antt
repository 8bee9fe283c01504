-- The lines of an input.
use Rattle.std.specs.Prelude.{◌≡◌, ℕ, ◌==◌, List, [], ◌∷◌, ◌++◌, map, take, if◌then◌else◌}
use Rattle.hk_cli_input.specs.Taking.{TookMore, TookFront}
use Rattle.hk_cli_input.specs.declared.lines.Line.{Line}

-- the byte before the first of these lines
abbrev pub in_front : ℕ → List (List ℕ) → List (List ℕ)
in_front byte [] = (byte ∷ []) ∷ []
in_front byte (line ∷ lines) = (byte ∷ line) ∷ lines

-- bytes are cut at each line feed; what follows the last one is the last line
abbrev pub lines_of : List ℕ → List (List ℕ)
lines_of [] = [] ∷ []
lines_of (byte ∷ bytes) = if byte == 10 then [] ∷ lines_of bytes else in_front byte (lines_of bytes)

-- the same, of each line its first so many bytes
abbrev pub lines_within : ℕ → List ℕ → List (List ℕ)
lines_within most bytes = map (take most) (lines_of bytes)

-- all lines of these bytes were taken, or a front of them
abbrev pub TookAll : {T : Type 0} → ℕ → (T → List (List ℕ) → T → Type 0) → T → T → List ℕ → Type 0
TookAll most took old new bytes = TookMore took old new (lines_within most bytes)

abbrev pub TookSome : {T : Type 0} → ℕ → (T → List (List ℕ) → T → Type 0) → T → T → List ℕ → Type 0
TookSome most took old new bytes = TookFront took old new (lines_within most bytes)

-- Where a reading of lines stands: behind these bytes all lines are taken but the last, and of that the first bytes are kept.
abbrev pub Stands : {T : Type 0} → ℕ → (T → List (List ℕ) → T → Type 0) → T → T → List ℕ → List ℕ → Type 0
Stands most took start now bytes kept =
    (whole : List (List ℕ)) × (last : List ℕ) × (lines_of bytes ≡ whole ++ last ∷ [])
    × TookMore took start now (map (take most) whole) × (kept ≡ take most last)

-- wherever it stood, it stands behind these bytes now
abbrev pub GoesOn : {T : Type 0} → ℕ → (T → List (List ℕ) → T → Type 0) → T → T → List ℕ → List ℕ → List ℕ → Type 0
GoesOn {T} most took old new kept kept_after more =
    (start : T) (bytes : List ℕ) → Stands most took start old bytes kept → Stands most took start new (bytes ++ more) kept_after

-- the same of the line that is being read
abbrev pub LineGoesOn : {T : Type 0} → ℕ → (T → List (List ℕ) → T → Type 0) → T → T → Line → Line → List ℕ → Type 0
LineGoesOn most took old new line line_after more = GoesOn most took old new line.bytes.items line_after.bytes.items more

-- wherever it stood, a front of the lines is taken now, with these bytes
abbrev pub BreaksOff : {T : Type 0} → ℕ → (T → List (List ℕ) → T → Type 0) → T → T → List ℕ → List ℕ → Type 0
BreaksOff {T} most took old new kept more =
    (start : T) (bytes : List ℕ) → Stands most took start old bytes kept → TookSome most took start new (bytes ++ more)
