-- Lists whose elements are read one after the other: all of them are kept, or only how many there are and the place of the last.
use Rattle.std.specs.Prelude.{ℕ, zero, suc, ◌+◌, true, false, ◌||◌, ◌==◌, nat_lt, if◌then◌else◌, List, [], ◌∷◌, ◌++◌, length, Option, Some, None, Result, Ok}
use Rattle.std.specs.Int.{w16}
use Rattle.hk_types.specs.declared.faults.FormFault.{FormFault}
use Rattle.hk_types.specs.declared.faults.FormFault.TheVariants.{BadOrder, BadCount}
use Rattle.hk_frames.specs.declared.cursor.ReadError.{ReadError}
use Rattle.hk_frames.specs.Fields.{◌>>=◌, mapped, check, number_at, GivesOrRunsOut}
use Rattle.hk_codec.specs.Lists.{last_place, is_above}

-- what is kept of the elements that were read
pub record Keeping (S : Type 0) : Type 0 where
  -- of none
  pub none : S
  -- how many they were, and the place of the last
  pub count : S → ℕ
  pub last : S → Option (ℕ × ℕ)
  -- what is kept once the next is read, of a table, in an entry with a time; and the bytes after it
  pub next : ℕ → ℕ → S → List ℕ → Result (S × List ℕ) FormFault

-- how an element of a table is read, in an entry with a time, after the place before it
abbrev pub Reader : Type 0 → Type 0
Reader X = ℕ → ℕ → Option (ℕ × ℕ) → List ℕ → Result (X × List ℕ) FormFault

-- the place of the element that is read, and the bytes after it
abbrev pub place_read : {X : Type 0} → (X → ℕ × ℕ) → Reader X → ℕ → ℕ → Option (ℕ × ℕ) → List ℕ → Result ((ℕ × ℕ) × List ℕ) FormFault
place_read place one time table before bytes = mapped (λ x. (place x.0, x.1)) (one time table before bytes)

-- all of them
abbrev pub all_of : {X : Type 0} → (X → ℕ × ℕ) → Reader X → Keeping (List X)
all_of place one = record {
  none = [];
  count = length;
  last = last_place place None;
  next = λ time table xs bytes. mapped (λ x. (xs ++ x.0 ∷ [], x.1)) (one time table (last_place place None xs) bytes);
}

-- how many they were, and the place of the last
abbrev pub passed_of : {X : Type 0} → (X → ℕ × ℕ) → Reader X → Keeping (ℕ × Option (ℕ × ℕ))
passed_of place one = record {
  none = (0, None);
  count = λ s. s.0;
  last = λ s. s.1;
  next = λ time table s bytes. mapped (λ x. ((s.0 + 1, Some (place x.0)), x.1)) (one time table s.1 bytes);
}

-- this is what reading keeps and these the bytes that it leaves, unless memory ran out
abbrev pub Leaves : {S U : Type 0} → Result (S × List ℕ) FormFault → S → List ℕ → Result U ReadError → Type 0
Leaves read kept bytes result = GivesOrRunsOut (λ _. (kept, bytes)) result read

-- so many steps of a reading, one after the other
unfoldable pub steps_at : {S : Type 0} → (S → List ℕ → Result (S × List ℕ) FormFault) → ℕ → S → List ℕ → Result (S × List ℕ) FormFault
steps_at one zero s bytes = Ok (s, bytes)
steps_at one (suc n) s bytes = do
  first ← one s bytes
  steps_at one n first.0 first.1

-- an element behind its table
unfoldable pub tabled_at : {S : Type 0} → Keeping S → ℕ → S → List ℕ → Result (S × List ℕ) FormFault
tabled_at k time s bytes = do
  table ← number_at w16 bytes
  k.next time table.0 s table.1

-- a group, at most 1,024 elements with it: a table above theirs, and at least one element of it
unfoldable pub kept_group_at : {S : Type 0} → Keeping S → ℕ → S → List ℕ → Result (S × List ℕ) FormFault
kept_group_at k time s bytes = do
  table ← number_at w16 bytes
  _ ← check (if is_above (k.last s) table.0 then false else true) BadOrder
  count ← number_at w16 table.1
  _ ← check (nat_lt count.0 1 || nat_lt 1024 (k.count s + count.0)) BadCount
  steps_at (k.next time table.0) count.0 s count.1

-- A list as a version has it: one by one, or in groups, behind the count of these. It may be none where there are others.
unfoldable pub kept_list_at : {S : Type 0} → Keeping S → ℕ → ℕ → ℕ → List ℕ → Result (S × List ℕ) FormFault
kept_list_at k version time others bytes = do
  count ← number_at w16 bytes
  _ ← check (nat_lt 1024 count.0 || nat_lt (others + count.0) 1) BadCount
  if version == 1 then steps_at (tabled_at k time) count.0 k.none count.1 else steps_at (kept_group_at k time) count.0 k.none count.1
