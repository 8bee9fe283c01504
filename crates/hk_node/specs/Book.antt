-- The rule of the book in which a node's list of operations stands, and what its one step tells.
use Rattle.std.specs.Prelude.{ℕ, ◌≡◌, ◌+◌, ◌==◌, true, false, List, [], ◌∷◌, ◌++◌, length, MatchBool}
use Rattle.logbook.specs.Pages.{Cell, Step, View, Book, Named}
use Rattle.hk_oplog.specs.declared.op.NodeKind.{NodeKind}
use Rattle.hk_oplog.specs.declared.op.Op.{Op}

-- the one word is the number of the operations after the first
abbrev pub IsCounted : List Cell → List Op → Type 0
IsCounted cells log = (n : ℕ) × (cells ≡ (n, true) ∷ []) × (n + 1 ≡ length log)

abbrev pub counter_of : Book → Named
counter_of b = record { tracked = true; key = 0; book = b }

-- an exchange that finds what it looks for adds its operation
abbrev pub Adds : Step Op → View Op ℕ → ℕ → View Op ℕ → Type 0
Adds s v found w = MatchBool (found == s.old) (w.0 ≡ v.0 ++ s.ask ∷ []) (Unit {0})

abbrev pub no_book : Book
no_book = record { number = 0; log_name = 0; cells_name = 0 }

-- the kind of no node
abbrev pub no_kind : NodeKind
no_kind = record { config = record { log = 0; streams = 0 }; guarded = false }
