-- What connections share: how many bytes and pins are left of it, and what each room has.
use Rattle.std.specs.Prelude.{◌≡◌, ℕ, ◌+◌, ◌≤◌, ◌==◌, MatchBool, List, [], ◌∷◌, sum, refl}
use Rattle.std.specs.Coded.{Coded, coded_ℕ, coded×, code_by}
use Rattle.atomic_table.specs.Table.{Me, Step}
use Rattle.atomic_table.specs.Seated.{TableId, table_id_coded}

-- the limit of one stock, and the table whose one word is what is left
pub record StockValue : Type 0 where
  pub most : ℕ
  pub table : TableId

abbrev pub stock_code : Coded StockValue
stock_code = code_by (ℕ × TableId) (coded× coded_ℕ table_id_coded) (λ b. (b.most, b.table)) (λ p. record { most = p.0; table = p.1 }) (λ _. refl)

-- how many holds all links have at most
abbrev pub most_pins : ℕ
most_pins = 65536

-- at each moment what is left and what all rooms have make the limit
pub record AddsUp (most : ℕ) (words rooms : List ℕ) : Type 0 where
  pub left : ℕ
  pub word : words ≡ left ∷ []
  pub total : left + sum rooms ≡ most

-- so all rooms together never have more than the limit
abbrev pub BudgetLaw : Type 0
BudgetLaw = (most : ℕ) (words rooms : List ℕ) → AddsUp most words rooms → sum rooms ≤ most

-- what a step tells whose seat is that of a room: a new room has nothing, and no more than the limit is left
abbrev pub Enters : ℕ → ℕ → ℕ → Type 0
Enters most left room = (room ≡ 0) × (left ≤ most)

-- where so much was left the room has what is taken of it, and else what it had
abbrev pub Takes : ℕ → ℕ → ℕ → ℕ → ℕ → Type 0
Takes expected rest before found after = MatchBool (found == expected) (after + rest ≡ before + expected) (after ≡ before)

-- the room has so much less
abbrev pub Returns : ℕ → ℕ → ℕ → Type 0
Returns bytes before after = after + bytes ≡ before
