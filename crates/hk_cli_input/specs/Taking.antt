-- What a receiver took of an input. `took` shows, of a receiver as it began and as it is now, what it took since.
use Rattle.std.specs.Prelude.{◌≡◌, ℕ, List, ◌++◌, Option}
use Rattle.std.specs.Io.KnownBytes.{Consumes, IsAtEnd}

-- wherever it began and whatever it took before, it took these behind that
abbrev pub TookMore : {T X : Type 0} → (T → List X → T → Type 0) → T → T → List X → Type 0
TookMore {T} {X} took old new more = (start : T) (before : List X) → took start before old → took start (before ++ more) new

-- the same of a front of these
abbrev pub TookFront : {T X : Type 0} → (T → List X → T → Type 0) → T → T → List X → Type 0
TookFront {T} {X} took old new all = (front rest : List X) × (all ≡ front ++ rest) × TookMore took old new front

-- it took nothing
abbrev pub TookNone : {T X : Type 0} → (T → List X → T → Type 0) → T → T → Type 0
TookNone {T} {X} took old new = (start : T) (before : List X) → took start before old → took start before new

-- an input, of which `remaining` shows what is left, gave these bytes, and this was done with them
abbrev pub Gave : {I : Type 0} → (I → Option (List ℕ)) → I → I → (List ℕ → Type 0) → Type 0
Gave remaining old new Did = (bytes : List ℕ) × Consumes (remaining old) (remaining new) bytes × Did bytes

-- and it has no more
abbrev pub GaveAll : {I : Type 0} → (I → Option (List ℕ)) → I → I → (List ℕ → Type 0) → Type 0
GaveAll remaining old new Did = IsAtEnd (remaining new) × Gave remaining old new Did
