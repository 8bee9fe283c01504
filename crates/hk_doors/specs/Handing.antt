-- Which bytes a session gets of those that a connection brings, by the length fields of their frames.
use Rattle.std.specs.Prelude.{◌≡◌, ◌≤◌, ℕ, ◌+◌, ◌-◌, ◌==◌, ◌||◌, nat_lt, min, if◌then◌else◌, List, [], ◌∷◌, ◌++◌, length, take, slice_get, slice_set, Option, Some, None, refl}
use Rattle.std.specs.Coded.{Coded, code_by, coded×, coded_ℕ, coded_list}
use Rattle.hk_frames.specs.Framing.{len_of}
use Rattle.hk_message_head.specs.Kinds.{does_at}
use Rattle.hk_doors.specs.declared.passes.Passes.{Passes}
use Rattle.hk_doors.specs.declared.passes.Passes.TheVariants.{All}
use Rattle.hk_doors.specs.Doors.{lets_kind, is_too_long}

-- where a connection stands: how many bytes the frame that it is inside has, and how many of them are still to come
pub record Place : Type 0 where
  pub whole : ℕ
  pub left : ℕ

-- inside of a frame of so many bytes; between two frames where nothing of it is left
abbrev pub inside : ℕ → ℕ → Place
inside whole left = record { whole = if left == 0 then 0 else whole; left = left }

-- a place, and the first bytes of a frame that can't be judged yet
pub record WatchValue : Type 0 where
  pub place : Place
  pub begun : List ℕ

abbrev pub watch_code : Coded WatchValue
watch_code =
    code_by (ℕ × (ℕ × List ℕ)) (coded× coded_ℕ (coded× coded_ℕ (coded_list coded_ℕ)))
    (λ w. (w.place.whole, (w.place.left, w.begun))) (λ p. record { place = record { whole = p.0; left = p.1.0 }; begun = p.1.1 }) (λ _. refl)

-- A frame is judged by so many of its first bytes: by all of them up to 36, or by its length alone, where that is one
-- that no request has which passes, or none at all.
abbrev pub head_len : Passes → ℕ → ℕ
head_len passes len = if is_too_long passes len || nat_lt 268435456 len then 4 else min 36 (4 + len)

-- the first bytes of a frame, as many as it is judged by
abbrev pub IsHead : Passes → List ℕ → Type 0
IsHead passes head = length head ≡ head_len passes (len_of head)

-- with 255, which is no message's kind, in place of a kind that doesn't pass
abbrev pub judged_kind : Passes → List ℕ → Option ℕ → List ℕ
judged_kind passes head None = head
judged_kind passes head (Some kind) = if lets_kind passes (does_at kind) then head else slice_set head 5 255

-- as a session gets them: a length that is too long is turned into one that no frame has, and a kind that doesn't pass
abbrev pub judged : Passes → List ℕ → List ℕ
judged passes head =
    if is_too_long passes (len_of head) then 255 ∷ 255 ∷ 255 ∷ 255 ∷ []
    else judged_kind passes head (slice_get head 5)

-- where the connection stands behind them
abbrev pub behind : List ℕ → Place
behind head = inside (4 + len_of head) (4 + len_of head - length head)

-- What came from this place on has the heads of these frames, in their order. A session gets them judged, and all else as it
-- came; and this is where the connection stands then.
abbrev pub Gets : Passes → Place → List (List ℕ) → List ℕ → List ℕ → Place → Type 0
Gets passes here [] came got there = (got ≡ came) × (length came ≤ here.left) × (there ≡ inside here.whole (here.left - length came))
Gets passes here (head ∷ heads) came got there =
    (rest : List ℕ) × (more : List ℕ) × (given : List ℕ) × (length rest ≡ here.left) × (came ≡ rest ++ (head ++ more)) ×
    (got ≡ rest ++ (judged passes head ++ given)) × IsHead passes head × Gets passes (behind head) heads more given there

-- the same, whichever frames those are
abbrev pub HandsOn : Passes → Place → List ℕ → List ℕ → Place → Type 0
HandsOn passes here came got there = (heads : List (List ℕ)) × Gets passes here heads came got there

-- the first so many bytes of these are handed on, as the first of those
abbrev pub HandsOnFirst : Passes → ℕ → Place → List ℕ → List ℕ → Place → Type 0
HandsOnFirst passes count here came got there = HandsOn passes here (take count came) (take count got) there

-- the first so many are a head, and it is judged
abbrev pub JudgesFirst : Passes → ℕ → List ℕ → List ℕ → Type 0
JudgesFirst passes count came got = take count got ≡ judged passes (take count came)

-- ---- laws

-- what follows is handed on behind what was, from where the connection stood then
abbrev pub JoinsLaw : Type 0
JoinsLaw = (passes : Passes) (here middle there : Place) (came more got given : List ℕ) → HandsOn passes here came got middle → HandsOn passes middle more given there → HandsOn passes here (came ++ more) (got ++ given) there

-- the bytes that come say which a session gets, and where the connection stands then
abbrev pub OneLaw : Type 0
OneLaw = (passes : Passes) (here there elsewhere : Place) (came got other : List ℕ) → HandsOn passes here came got there → HandsOn passes here came other elsewhere → (got ≡ other) × (there ≡ elsewhere)

-- at a door for all it gets these
abbrev pub AllLaw : Type 0
AllLaw = (here there : Place) (came got : List ℕ) → HandsOn All here came got there → got ≡ came
