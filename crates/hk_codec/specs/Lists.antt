-- The lists of an entry, its ends and its rows. In version 1 each element stands behind its table. In version 2 they
-- stand in groups of one table, which is named once for a group.
use Rattle.std.specs.Prelude.{◌≡◌, ◌≢◌, ◌≤◌, ℕ, zero, suc, ◌+◌, true, false, ◌||◌, ◌==◌, nat_lt, if◌then◌else◌, Bool, List, [], ◌∷◌, ◌++◌, length, take, drop, Option, Some, None, Result, Ok}
use Rattle.std.specs.Int.{w16}
use Rattle.std.specs.List.{flat_map}
use Rattle.hk_types.specs.declared.faults.FormFault.{FormFault}
use Rattle.hk_types.specs.declared.faults.FormFault.TheVariants.{BadOrder, BadCount}
use Rattle.hk_frames.specs.Fields.{◌>>=◌, check, number, number_at, list_at}

-- an element behind its table; `text` is what it has beside it
unfoldable pub tabled_text : {X : Type 0} → (X → ℕ × ℕ) → (X → List ℕ) → X → List ℕ
tabled_text place text x = number w16 (place x).0 ++ text x

-- the elements one by one behind their count
unfoldable pub counted_text : {X : Type 0} → (X → ℕ × ℕ) → (X → List ℕ) → List X → List ℕ
counted_text place text xs = number w16 (length xs) ++ flat_map (tabled_text place text) xs

-- the element before the groups: in the first of them where that is of its table, else as a group of its own
abbrev pub before_groups : {X : Type 0} → ℕ → X → List (ℕ × List X) → List (ℕ × List X)
before_groups table x [] = (table, x ∷ []) ∷ []
before_groups table x (g ∷ gs) = if table == g.0 then (g.0, x ∷ g.1) ∷ gs else (table, x ∷ []) ∷ g ∷ gs

-- the longest runs of elements of one table, each with that table
unfoldable pub groups_of : {X : Type 0} → (X → ℕ × ℕ) → List X → List (ℕ × List X)
groups_of place [] = []
groups_of place (x ∷ xs) = before_groups (place x).0 x (groups_of place xs)

-- the table, and the elements behind their count
unfoldable pub group_text : {X : Type 0} → (X → List ℕ) → ℕ × List X → List ℕ
group_text text g = number w16 g.0 ++ (number w16 (length g.1) ++ flat_map text g.1)

-- the only group behind its count
abbrev pub only_group_text : {X : Type 0} → (X → List ℕ) → ℕ × List X → List ℕ
only_group_text text g = number w16 1 ++ group_text text g

-- the groups behind their count
unfoldable pub grouped_text : {X : Type 0} → (X → ℕ × ℕ) → (X → List ℕ) → List X → List ℕ
grouped_text place text xs = number w16 (length (groups_of place xs)) ++ flat_map (group_text text) (groups_of place xs)

-- a list as a version has it
unfoldable pub list_text : {X : Type 0} → ℕ → (X → ℕ × ℕ) → (X → List ℕ) → List X → List ℕ
list_text version place text xs = if version == 1 then counted_text place text xs else grouped_text place text xs

-- the place of the last element, or the one before them all
abbrev pub last_place : {X : Type 0} → (X → ℕ × ℕ) → Option (ℕ × ℕ) → List X → Option (ℕ × ℕ)
last_place place before [] = before
last_place place before (x ∷ xs) = last_place place (Some (place x)) xs

-- a table above that of the place before it, where there is one
abbrev pub is_above : Option (ℕ × ℕ) → ℕ → Bool
is_above None table = true
is_above (Some p) table = nat_lt p.0 table

-- so many elements of a table behind these; `one` reads one of a table, and is told the place before it
unfoldable pub elements_at : {X : Type 0} → (X → ℕ × ℕ) → (ℕ → Option (ℕ × ℕ) → List ℕ → Result (X × List ℕ) FormFault) → ℕ → ℕ → List X → List ℕ → Result (List X × List ℕ) FormFault
elements_at place one table count before bytes = do
  more ← list_at place (one table) count (last_place place None before) bytes
  Ok (before ++ more.0, more.1)

-- a group behind these elements, at most 1,024 with it: a table above theirs, and at least one element of it
unfoldable pub group_at : {X : Type 0} → (X → ℕ × ℕ) → (ℕ → Option (ℕ × ℕ) → List ℕ → Result (X × List ℕ) FormFault) → List X → List ℕ → Result (List X × List ℕ) FormFault
group_at place one before bytes = do
  table ← number_at w16 bytes
  _ ← check (if is_above (last_place place None before) table.0 then false else true) BadOrder
  count ← number_at w16 table.1
  _ ← check (nat_lt count.0 1 || nat_lt 1024 (length before + count.0)) BadCount
  elements_at place one table.0 count.0 before count.1

-- so many groups behind these elements
unfoldable pub groups_at : {X : Type 0} → (X → ℕ × ℕ) → (ℕ → Option (ℕ × ℕ) → List ℕ → Result (X × List ℕ) FormFault) → ℕ → List X → List ℕ → Result (List X × List ℕ) FormFault
groups_at place one zero before bytes = Ok (before, bytes)
groups_at place one (suc n) before bytes = do
  more ← group_at place one before bytes
  groups_at place one n more.0 more.1

-- the first element is of another table, where there is one
abbrev pub StartsOther : {X : Type 0} → (X → ℕ × ℕ) → ℕ → List X → Type 0
StartsOther place table [] = Unit {0}
StartsOther place table (x ∷ xs) = (place x).0 ≢ table

-- the first group is so many elements of this table
pub record IsFirstGroup {X : Type 0} (place : X → ℕ × ℕ) (xs : List X) (table count : ℕ) : Type 0 where
  pub least : 1 ≤ count
  pub most : count ≤ length xs
  pub groups : groups_of place xs ≡ (table, take count xs) ∷ groups_of place (drop count xs)
