-- Readers of fields, and what is made of them.
use Rattle.std.specs.Prelude.{ℕ, ◌^◌, ◌≤◌, Bool, nat_lt, List, [], ◌∷◌, Option, Some, None, Result, Ok, nat_le, not, ◌&&◌, ◌||◌, ◌==◌}
use Rattle.std.specs.Int.{w16, w32, w64}
use Rattle.hk_types.specs.declared.faults.FormFault.{FormFault}
use Rattle.hk_types.specs.declared.faults.FormFault.TheVariants.{BadStream, BadNumber}
use Rattle.hk_frames.specs.Fields.{◌>>=◌, check, byte_at, number_at, list_at}

-- a reader gives a value at the front of bytes, and the bytes after it, or the first fault
abbrev pub Reader : Type 0 → Type 0
Reader X = List ℕ → Result (X × List ℕ) FormFault

-- one value, and then another
abbrev pub both : {A B : Type 0} → Reader A → Reader B → Reader (A × B)
both first second bytes = first bytes >>= λ a. second a.1 >>= λ b. Ok ((a.0, b.0), b.1)

-- one value, and then another, which is read as the first one says
abbrev pub after : {A B : Type 0} → Reader A → (A → Reader B) → Reader (A × B)
after first second bytes = first bytes >>= λ a. second a.0 a.1 >>= λ b. Ok ((a.0, b.0), b.1)

-- a value, with a fault where it is barred
abbrev pub fault_where : {A : Type 0} → Reader A → (A → Bool) → FormFault → Reader A
fault_where reader bad fault bytes = reader bytes >>= λ a. check (bad a.0) fault >>= λ _. Ok a

-- what is made of a value
abbrev pub mapped_value : {A B : Type 0} → (A → B) → Reader A → Reader B
mapped_value f reader bytes = reader bytes >>= λ a. Ok (f a.0, a.1)

-- nothing
abbrev pub nothing : {A : Type 0} → A → Reader A
nothing x bytes = Ok (x, bytes)

-- a byte that tells the kind, and then what it says
abbrev pub by_kind : {A : Type 0} → (ℕ → Reader A) → Reader A
by_kind of_kind bytes = byte_at bytes >>= λ kind. of_kind kind.0 kind.1

-- a time, 0 to 2^62
unfoldable pub time_at : Reader ℕ
time_at bytes = fault_where (number_at w64) (λ n. nat_lt (2 ^ 62) n) BadNumber bytes

-- a list behind its count, each element read by `one`, which is told the place of the element before it
abbrev pub list_by : {X P : Type 0} → Reader ℕ → (X → P) → (Option P → Reader X) → Reader (List X)
list_by count_at place one bytes = count_at bytes >>= λ count. list_at place one count.0 None count.1

-- a list behind a count of four bytes
abbrev pub list_by_count : {X P : Type 0} → (X → P) → (Option P → Reader X) → Reader (List X)
list_by_count place one bytes = list_by (number_at w32) place one bytes

-- each element fits behind the place of the element before it
abbrev pub Chained : {X P : Type 0} → (X → P) → (Option P → X → Type 0) → Option P → List X → Type 0
Chained place Fit before [] = Unit {0}
Chained place Fit before (x ∷ xs) = Fit before x × Chained place Fit (Some (place x)) xs

-- a number of 64 bits that is not 0
unfoldable pub positive_at : Reader ℕ
positive_at bytes = fault_where (number_at w64) (λ n. n == 0) BadNumber bytes

-- whether there can be so many operations: 1 to 2^62
abbrev pub is_ops : ℕ → Bool
is_ops ops = nat_lt 0 ops && nat_le ops (2 ^ 62)

-- a number of operations, 1 to 2^62
unfoldable pub ops_at : Reader ℕ
ops_at bytes = fault_where (number_at w64) (λ ops. not (is_ops ops)) BadNumber bytes

-- a horizon, and a readable mark that is not below it
unfoldable pub front_at : Reader (ℕ × ℕ)
front_at bytes = fault_where (both time_at time_at) (λ p. not (nat_le p.0 p.1)) BadNumber bytes

-- a number of streams, 1 to 64
unfoldable pub stream_count_at : Reader ℕ
stream_count_at bytes = fault_where (number_at w16) (λ n. nat_lt n 1 || nat_lt 64 n) BadStream bytes

-- a time, if there is one
abbrev pub DiedFits : Option ℕ → Type 0
DiedFits None = Unit {0}
DiedFits (Some died) = died ≤ 2 ^ 62
