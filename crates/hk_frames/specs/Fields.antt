-- Fields: how numbers are encoded, and how bytes are read from left to right up to the first fault.
use Rattle.std.specs.Prelude.{◌≡◌, ◌<◌, ℕ, zero, suc, Bool, true, nat_lt, if◌then◌else◌, List, [], ◌∷◌, length, take, drop, slice_index, Option, Some, Result, Ok, Err}
use Rattle.std.specs.Int.{Width, w16, byte_len, from_be_bytes, to_be_bytes}
use Rattle.hk_types.specs.Values.{RowValue}
use Rattle.hk_types.specs.declared.faults.FormFault.{FormFault}
use Rattle.hk_types.specs.declared.faults.FormFault.TheVariants.{WrongLength, BadBody}
use Rattle.hk_frames.specs.declared.cursor.ReadError.{ReadError}
use Rattle.hk_frames.specs.declared.cursor.ReadError.TheVariants.{Memory, Fault}

-- bytes are numbers below 256
abbrev pub IsBytes : List ℕ → Type 0
IsBytes bytes = (i : ℕ) → slice_index bytes i < 256

-- a number in two, four or eight bytes, the highest first
unfoldable pub number : Width → ℕ → List ℕ
number w n = to_be_bytes w n

-- one step of a reading after another: the first fault ends it
infixl 10 ◌>>=◌
abbrev pub ◌>>=◌ : {A B : Type 0} → Result A FormFault → (A → Result B FormFault) → Result B FormFault
(Ok x) >>= f = f x
(Err fault) >>= f = Err fault

-- what is made of what was read
abbrev pub mapped : {A B : Type 0} → (A → B) → Result A FormFault → Result B FormFault
mapped f (Ok x) = Ok (f x)
mapped f (Err fault) = Err fault

-- goes on unless the test shows a fault
abbrev pub check : Bool → FormFault → Result Bool FormFault
check bad fault = if bad then Err fault else Ok true

-- a byte, and the bytes after it
unfoldable pub byte_at : List ℕ → Result (ℕ × List ℕ) FormFault
byte_at [] = Err WrongLength
byte_at (b ∷ bytes) = Ok (b, bytes)

-- a number, and the bytes after it
unfoldable pub number_at : Width → List ℕ → Result (ℕ × List ℕ) FormFault
number_at w bytes = if nat_lt (length bytes) (byte_len w) then Err WrongLength else Ok (from_be_bytes w (take (byte_len w) bytes), drop (byte_len w) bytes)

-- so many bytes, and the bytes after them
unfoldable pub bytes_at : ℕ → List ℕ → Result (List ℕ × List ℕ) FormFault
bytes_at n bytes = if nat_lt (length bytes) n then Err WrongLength else Ok (take n bytes, drop n bytes)

-- a body behind its length, and the bytes after it
unfoldable pub body_at : List ℕ → Result (List ℕ × List ℕ) FormFault
body_at bytes = do
  len ← number_at w16 bytes
  _ ← check (nat_lt 4096 len.0) BadBody
  bytes_at len.0 len.1

-- a row with a tag: its body, and the bytes after it
abbrev pub row_of : ℕ → List ℕ → Result (RowValue × List ℕ) FormFault
row_of tag bytes = mapped (λ p. (record { tag = tag; body = p.0 }, p.1)) (body_at bytes)

-- so many elements, each read by `one`, which is told the place of the element before it; and the bytes after them
unfoldable pub list_at : {X P : Type 0} → (X → P) → (Option P → List ℕ → Result (X × List ℕ) FormFault) → ℕ → Option P → List ℕ → Result (List X × List ℕ) FormFault
list_at place one zero before bytes = Ok ([], bytes)
list_at place one (suc n) before bytes = do
  first ← one before bytes
  others ← list_at place one n (Some (place first.0)) first.1
  Ok (first.0 ∷ others.0, others.1)

-- what a function returned, seen by `view`, is what reading gives
abbrev pub GivesValue : {X Y : Type 0} → (X → Y) → Result X FormFault → Result Y FormFault → Type 0
GivesValue view (Ok x) read = read ≡ Ok (view x)
GivesValue view (Err fault) read = read ≡ Err fault

-- an error is the fault that reading gives, or that memory ran out
abbrev pub Fails : {Y : Type 0} → ReadError → Result Y FormFault → Type 0
Fails Memory read = Unit {0}
Fails (Fault fault) read = read ≡ Err fault

-- what a function returned, seen by `view`, is what reading gives, unless memory ran out
abbrev pub GivesOrRunsOut : {X Y : Type 0} → (X → Y) → Result X ReadError → Result Y FormFault → Type 0
GivesOrRunsOut view (Ok x) read = read ≡ Ok (view x)
GivesOrRunsOut view (Err error) read = Fails error read
