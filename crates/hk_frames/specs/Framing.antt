-- Frames of values of any kind: a length of four bytes, and then as many bytes, the rest.
use Rattle.std.specs.Prelude.{◌≡◌, ℕ, ◌+◌, ◌^◌, ◌<◌, ◌≤◌, ◌⊎◌, nat_lt, if◌then◌else◌, List, [], ◌∷◌, ◌++◌, length, map, take, drop, Option, Some, None, Result, Ok, Err, IfOk}
use Rattle.std.specs.List.{flat_map, AllByRecursion}
use Rattle.std.specs.Option.{option_map}
use Rattle.std.specs.Int.{w32, from_be_bytes}
use Rattle.hk_types.specs.declared.faults.FormFault.{FormFault}
use Rattle.hk_types.specs.declared.faults.FormFault.TheVariants.{TooLong, WrongLength, Truncated}
use Rattle.hk_types.specs.declared.faults.Refusal.{Refusal}
use Rattle.hk_types.specs.declared.faults.Refusal.TheVariants as refusals
use Rattle.hk_frames.specs.Fields.{IsBytes, number, mapped, ◌>>=◌}

-- the length field
abbrev pub len_of : List ℕ → ℕ
len_of bytes = from_be_bytes w32 (take 4 bytes)

-- The rest of the frame at the front, or none where a whole frame isn't there yet. The length is tested
-- against the least and the most as soon as it is there.
unfoldable pub rest_at : ℕ → ℕ → List ℕ → Result (Option (List ℕ)) FormFault
rest_at least most bytes =
    if nat_lt (length bytes) 4 then Ok None
    else if nat_lt most (len_of bytes) then Err TooLong
    else if nat_lt (len_of bytes) least then Err WrongLength
    else if nat_lt (length bytes) (4 + len_of bytes) then Ok None
    else Ok (Some (take (len_of bytes) (drop 4 bytes)))

-- the value that a rest is, and how many bytes its frame has
abbrev pub value_of : {X : Type 0} → (List ℕ → Result X FormFault) → Option (List ℕ) → Result (Option (X × ℕ)) FormFault
value_of read None = Ok None
value_of read (Some rest) = read rest >>= λ x. Ok (Some (x, 4 + length rest))

-- the value at the front and how many bytes its frame has, or none where a whole frame isn't there yet
unfoldable pub framed : {X : Type 0} → ℕ → ℕ → (List ℕ → Result X FormFault) → List ℕ → Result (Option (X × ℕ)) FormFault
framed least most read bytes = rest_at least most bytes >>= value_of read

-- less than a frame: fewer than four bytes, or a length in its limits and fewer bytes than it says
abbrev pub IsPartial : ℕ → ℕ → List ℕ → Type 0
IsPartial least most bytes = (length bytes < 4) ⊎ ((least ≤ len_of bytes) × (len_of bytes ≤ most) × (length bytes < 4 + len_of bytes))

-- one frame, as its length says
abbrev pub IsWhole : List ℕ → Type 0
IsWhole bytes = (4 ≤ length bytes) × (length bytes ≡ 4 + len_of bytes)

-- a frame: the length of the rest that encodes a value, and the rest
unfoldable pub encoded : {X : Type 0} → (X → List ℕ) → X → List ℕ
encoded rest_text x = number w32 (length (rest_text x)) ++ rest_text x

-- For values that `rest_text` encodes where they are `IsValue`, in rests of at least `least` and at most `most` bytes
-- that `read` reads: the text begins with the encodings of these values. After them comes less than a frame, which is
-- left, or bytes with this fault.
abbrev pub Begins : {X : Type 0} → ℕ → ℕ → (List ℕ → Result X FormFault) → (X → List ℕ) → (X → Type 0) → List ℕ → List X → Result (List ℕ) FormFault → Type 0
Begins least most read rest_text IsValue text values (Ok left) = (text ≡ flat_map (encoded rest_text) values ++ left) × AllByRecursion IsValue values × IsPartial least most left
Begins least most read rest_text IsValue text values (Err fault) = (left : List ℕ) × (text ≡ flat_map (encoded rest_text) values ++ left) × AllByRecursion IsValue values × (framed least most read left ≡ Err fault)

-- The same of values that are seen as what the encodings tell: `seen` is what is seen of a value, and `meant` what is
-- seen of what an encoding tells, which may be one of several of the value.
abbrev pub BeginsAs : {X Y T : Type 0} → (X → Y) → (T → Y) → ℕ → ℕ → (List ℕ → Result T FormFault) → (T → List ℕ) → (T → Type 0) → List ℕ → List X → Result (List ℕ) FormFault → Type 0
BeginsAs {X} {Y} {T} seen meant least most read rest_text HasText text values left =
    (told : List T) × (map seen values ≡ map meant told) × Begins least most read rest_text HasText text told left

-- what is added to a list of values where this text is read so far
abbrev pub AddsValues : {X Y T : Type 0} → (X → Y) → (T → Y) → ℕ → ℕ → (List ℕ → Result T FormFault) → (T → List ℕ) → (T → Type 0) → List X → List X → List ℕ → Result (List ℕ) FormFault → Type 0
AddsValues {X} seen meant least most read rest_text HasText before after text left =
    (values : List X) × (after ≡ before ++ values) × BeginsAs seen meant least most read rest_text HasText text values left

-- reading and encoding of a rest undo each other, and the rest of each value is in its limits
pub record IsFormat {X : Type 0} (least most : ℕ) (read : List ℕ → Result X FormFault) (rest_text : X → List ℕ) (IsValue : X → Type 0) : Type 0 where
  pub takes : (bytes : List ℕ) (x : X) → IsBytes bytes → length bytes ≤ most → read bytes ≡ Ok x → (bytes ≡ rest_text x) × IsValue x
  pub again : (x : X) → IsValue x → read (rest_text x) ≡ Ok x
  pub at_least : (x : X) → IsValue x → least ≤ length (rest_text x)
  pub at_most : (x : X) → IsValue x → length (rest_text x) ≤ most
  pub in_width : most < 2 ^ 32

-- How values stand in rests of at least `least` and at most `most` bytes.
pub record FormatOf (X : Type 0) (least most : ℕ) : Type 1 where
  -- what the bytes of a rest tell: a value, and how it is written, where that can be done in several ways
  pub Told : Type 0
  -- what is seen of a value, and which that is, also of the value that is told
  pub Seen : Type 0
  pub seen : X → Seen
  pub meant : Told → Seen
  -- what a rest tells, or its first fault
  pub read : List ℕ → Result Told FormFault
  -- the bytes that tell this, and what can be told
  pub rest_text : Told → List ℕ
  pub IsEncodable : Told → Type 0

-- reading and encoding undo each other, and each rest is in its limits
abbrev pub IsSound : {X : Type 0} {least most : ℕ} → FormatOf X least most → Type 0
IsSound {least = least} {most = most} f = IsFormat least most f.read f.rest_text f.IsEncodable

-- the value at the front as it is seen, and how many bytes its frame has, or none where a whole frame isn't there yet
abbrev pub frame_seen : {X : Type 0} {least most : ℕ} → (f : FormatOf X least most) → List ℕ → Result (Option (f.Seen × ℕ)) FormFault
frame_seen {least = least} {most = most} f bytes = framed least most (λ rest. mapped f.meant (f.read rest)) bytes

-- what is seen of a value beside its length
abbrev pub seen_with_len : {X Y : Type 0} → (X → Y) → Option (X × ℕ) → Option (Y × ℕ)
seen_with_len seen value = option_map (λ x. (seen x.0, x.1)) value

-- what frames of this format add to a list of values where this text is read so far
abbrev pub AddsBy : {X : Type 0} {least most : ℕ} → FormatOf X least most → List X → List X → List ℕ → Result (List ℕ) FormFault → Type 0
AddsBy {least = least} {most = most} f before after text left =
    AddsValues f.seen f.meant least most f.read f.rest_text f.IsEncodable before after text left

-- what frames of this format add is said so too
abbrev pub AddsSo : {X : Type 0} {least most : ℕ} → FormatOf X least most → (List X → List X → List ℕ → Result (List ℕ) FormFault → Type 0) → Type 0
AddsSo {X = X} f Adds = (before after : List X) (text : List ℕ) (left : Result (List ℕ) FormFault) → AddsBy f before after text left → Adds before after text left

-- what a feeder holds: less than a frame, or the fault that it met
abbrev pub rest_of : List ℕ → Option FormFault → Result (List ℕ) FormFault
rest_of left None = Ok left
rest_of left (Some fault) = Err fault

-- the same of the bytes from a place on
abbrev pub rest_from : ℕ → List ℕ → Option FormFault → Result (List ℕ) FormFault
rest_from used bytes fault = rest_of (drop used bytes) fault

-- a piece was read behind what was held, as far as the new bytes and the fault say
abbrev pub AddsBehind : {X E : Type 0} {least most : ℕ} → FormatOf X least most → List ℕ → List ℕ → List X → List X → List ℕ → Result (Option FormFault) E → Type 0
AddsBehind f held piece before after left result = IfOk result (λ fault. AddsBy f before after (held ++ piece) (rest_of left fault))

-- what a feeder with this state answers
abbrev pub answer : Result (List ℕ) FormFault → Result (Unit {0}) Refusal
answer (Ok left) = Ok tt
answer (Err fault) = Err (refusals.Form fault)

-- what it answers at the end: what is left is then cut off
abbrev pub last_answer : Result (List ℕ) FormFault → Result (Unit {0}) Refusal
last_answer (Ok []) = Ok tt
last_answer (Ok (b ∷ left)) = Err (refusals.Form Truncated)
last_answer (Err fault) = Err (refusals.Form fault)

-- A piece was fed to a feeder that holds less than a frame. Memory ran out, or the answer is that of the
-- state after it, and what was held and the piece are read so far into the list.
abbrev pub Feeds : {X : Type 0} → (List X → List X → List ℕ → Result (List ℕ) FormFault → Type 0) → Result (List ℕ) FormFault → Result (List ℕ) FormFault → List X → List X → List ℕ → Result (Unit {0}) Refusal → Type 0
Feeds adds old new before after piece result =
    (rest : List ℕ) → old ≡ Ok rest → (result ≡ Err refusals.Memory) ⊎ ((result ≡ answer new) × adds before after (rest ++ piece) new)

-- a feeder that met a fault answers it, keeps it, and adds nothing
abbrev pub KeepsFault : {X : Type 0} → Result (List ℕ) FormFault → Result (List ℕ) FormFault → List X → List X → Result (Unit {0}) Refusal → Type 0
KeepsFault old new before after result = (f : FormFault) → old ≡ Err f → (result ≡ Err (refusals.Form f)) × (new ≡ Err f) × (after ≡ before)

-- where memory ran out, the feeder and the list are as before
abbrev pub KeepsOnMemory : {X : Type 0} → Result (List ℕ) FormFault → Result (List ℕ) FormFault → List X → List X → Result (Unit {0}) Refusal → Type 0
KeepsOnMemory old new before after result = result ≡ Err refusals.Memory → (new ≡ old) × (after ≡ before)

-- ---- laws of a format

-- no value has two encodings, no encoding is that of two values, and none begins another
abbrev pub OneEncoding : {X : Type 0} → (X → Type 0) → (X → List ℕ) → Type 0
OneEncoding {X} IsValue encoding = (i j : X) (a b : List ℕ) → IsValue i → IsValue j → encoding i ++ a ≡ encoding j ++ b → (i ≡ j) × (a ≡ b)

-- a text is read in one way: which values it begins with, as `seen` sees them, and what follows them
abbrev pub OneReading : {X Y : Type 0} → (List X → Y) → (List ℕ → List X → Result (List ℕ) FormFault → Type 0) → Type 0
OneReading {X} seen reads =
    (text : List ℕ) (xs ys : List X) (l r : Result (List ℕ) FormFault) → reads text xs l → reads text ys r → (seen xs ≡ seen ys) × (l ≡ r)

-- pieces that are read one after the other are read as the whole is
abbrev pub PiecesJoin : {X : Type 0} → (List ℕ → List X → Result (List ℕ) FormFault → Type 0) → Type 0
PiecesJoin {X} reads =
    (text more left : List ℕ) (xs ys : List X) (r : Result (List ℕ) FormFault) → reads text xs (Ok left) → reads (left ++ more) ys r → reads (text ++ more) (xs ++ ys) r
