-- Refusals that are sent: their encoding and their reading.
use Rattle.std.specs.Prelude.{ℕ, ◌^◌, ◌<◌, ◌≤◌, Bool, true, false, not, ◌==◌, if◌then◌else◌, List, [], ◌∷◌, ◌++◌, Option, Some, None, Err, ◌||◌}
use Rattle.std.specs.Int.{w64}
use Rattle.hk_types.specs.FaultNumbers.{refusal_number}
use Rattle.hk_types.specs.declared.faults.FormFault.TheVariants.{Truncated, TooLong, BadVersion, BadKind, BadStream, BadNumber, BadOrder, BadCount, BadBody, WrongLength}
use Rattle.hk_types.specs.declared.faults.Refusal.{Refusal}
use Rattle.hk_types.specs.declared.faults.Refusal.TheVariants.{Form, ForeignLog, WrongStreams, Gap, Conflict, AheadOfMark, TooOld, NotYet, WriteConflict, NoRow, TwiceWritten, TooManyWrites, NoStream, ClockFull, Retired, Held, Damaged, Unpublished, NodeFull, NoHold, NoSuch, LinkFull, NoPart, Memory}
use Rattle.hk_frames.specs.Fields.{number, number_at}
use Rattle.hk_answers.specs.Readers.{Reader, both, fault_where, mapped_value, by_kind, time_at}

-- the two numbers that a refusal names, and 0 in the place of one that it doesn't
abbrev pub refusal_pair : Refusal → ℕ × ℕ
refusal_pair (Gap base readable) = (base, readable)
refusal_pair (AheadOfMark readable) = (readable, 0)
refusal_pair (TooOld horizon) = (horizon, 0)
refusal_pair (NotYet readable) = (readable, 0)
refusal_pair (Held reader at) = (reader, at)
refusal_pair (Unpublished ops) = (ops, 0)
refusal_pair (LinkFull most) = (most, 0)
refusal_pair other = (0, 0)

-- what follows the number of a refusal
abbrev pub refusal_fields : Refusal → List ℕ
refusal_fields r = number w64 (refusal_pair r).0 ++ number w64 (refusal_pair r).1

-- the encoding of a refusal
unfoldable pub refusal_text : Refusal → List ℕ
refusal_text r = refusal_number r ∷ refusal_fields r

-- those of transactions and of parts are not sent in version 1
abbrev pub is_sent : Refusal → Bool
is_sent (WriteConflict table key at) = false
is_sent (NoRow table key) = false
is_sent TwiceWritten = false
is_sent TooManyWrites = false
is_sent NoStream = false
is_sent ClockFull = false
is_sent (Retired stream) = false
is_sent (LinkFull most) = false
is_sent NoPart = false
is_sent other = true

-- a refusal whose numbers fit their fields
abbrev pub RefusalFits : Refusal → Type 0
RefusalFits (Gap base readable) = (base ≤ 2 ^ 62) × (readable ≤ 2 ^ 62)
RefusalFits (AheadOfMark readable) = readable ≤ 2 ^ 62
RefusalFits (TooOld horizon) = horizon ≤ 2 ^ 62
RefusalFits (NotYet readable) = readable ≤ 2 ^ 62
RefusalFits (Held reader at) = (reader < 2 ^ 64) × (at ≤ 2 ^ 62)
RefusalFits (Unpublished ops) = ops < 2 ^ 64
RefusalFits (LinkFull most) = most < 2 ^ 64
RefusalFits other = Unit {0}

-- a field that must be 0
unfoldable pub zero_at : Reader (Unit {0})
zero_at bytes = mapped_value (λ _. tt) (fault_where (number_at w64) (λ n. not (n == 0)) BadNumber) bytes

-- the refusals that name no number and are sent
abbrev pub plain_refusals : List Refusal
plain_refusals =
    Form Truncated ∷ Form TooLong ∷ Form BadVersion ∷ Form BadKind ∷ Form BadStream ∷ Form BadNumber ∷ Form BadOrder ∷ Form BadCount ∷ Form BadBody ∷ Form WrongLength
    ∷ ForeignLog ∷ WrongStreams ∷ Conflict ∷ Damaged ∷ NodeFull ∷ NoHold ∷ NoSuch ∷ Memory ∷ []

-- the first of the refusals with a number
abbrev pub first_with : ℕ → List Refusal → Option Refusal
first_with n [] = None
first_with n (r ∷ refusals) = if n == refusal_number r then Some r else first_with n refusals

-- the refusal with a number that names no number
unfoldable pub plain : ℕ → Option Refusal
plain n = first_with n plain_refusals

-- a refusal that names no number: both fields are 0
abbrev pub plain_of : Option Refusal → Reader Refusal
plain_of None bytes = Err BadNumber
plain_of (Some r) bytes = mapped_value (λ _. r) (both zero_at zero_at) bytes

-- what follows a refusal's number
unfoldable pub refusal_of : ℕ → Reader Refusal
refusal_of n bytes =
    if n == 22 then mapped_value (λ p. Gap p.0 p.1) (both time_at time_at) bytes
    else if n == 24 then mapped_value (λ p. AheadOfMark p.0) (both time_at zero_at) bytes
    else if n == 25 then mapped_value (λ p. TooOld p.0) (both time_at zero_at) bytes
    else if n == 26 then mapped_value (λ p. NotYet p.0) (both time_at zero_at) bytes
    else if n == 40 then mapped_value (λ p. Held p.0 p.1) (both (number_at w64) time_at) bytes
    else if n == 42 then mapped_value (λ p. Unpublished p.0) (both (number_at w64) zero_at) bytes
    else plain_of (plain n) bytes

-- a refusal: its number, and then the two fields
unfoldable pub refusal_at : Reader Refusal
refusal_at bytes = by_kind refusal_of bytes

-- the refusals that version 1 has no number for
abbrev pub is_of_parts : Refusal → Bool
is_of_parts (LinkFull most) = true
is_of_parts NoPart = true
is_of_parts other = false

-- whether a refusal is sent in version 2
abbrev pub is_told : Refusal → Bool
is_told why = is_of_parts why || is_sent why

-- what follows a refusal's number
unfoldable pub later_refusal_of : ℕ → Reader Refusal
later_refusal_of n bytes =
    if n == 46 then mapped_value (λ p. LinkFull p.0) (both (number_at w64) zero_at) bytes
    else if n == 47 then mapped_value (λ p. NoPart) (both zero_at zero_at) bytes
    else refusal_of n bytes

-- a refusal: its number, and then the two fields
unfoldable pub later_refusal_at : Reader Refusal
later_refusal_at bytes = by_kind later_refusal_of bytes
