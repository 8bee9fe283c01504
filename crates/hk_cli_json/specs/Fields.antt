-- The pieces of a line of JSON: its fields, and what stands between them.
use Rattle.std.specs.Prelude.{ℕ, suc, nat_lt, if◌then◌else◌, List, [], ◌∷◌, ◌++◌, codes}
use Rattle.std.specs.Fmt.{decimal}

-- pieces, one after the other
abbrev pub joined : List (List ℕ) → List ℕ
joined [] = []
joined (piece ∷ pieces) = piece ++ joined pieces

-- a field that is a string
abbrev pub string : List ℕ → List ℕ → List (List ℕ)
string name text = codes "\"" ∷ name ∷ codes "\":\"" ∷ text ∷ codes "\"" ∷ []

-- a field that is a number of 64 bits: the string of its digits
abbrev pub wide : List ℕ → ℕ → List (List ℕ)
wide name n = string name (decimal n)

-- a field that is a smaller number
abbrev pub small : List ℕ → ℕ → List (List ℕ)
small name n = codes "\"" ∷ name ∷ codes "\":" ∷ decimal n ∷ []

-- the comma in front of an element that comes after so many others
abbrev pub comma : ℕ → List ℕ
comma before = if nat_lt 0 before then codes "," else []

-- elements that come after so many others, with commas between them
abbrev pub listed : {X : Type 0} → (X → List ℕ) → ℕ → List X → List ℕ
listed text before [] = []
listed text before (x ∷ xs) = comma before ++ text x ++ listed text (suc before) xs
