-- A page of rows: as many of them, from the first on, as are wanted and as there is room for.
use Rattle.std.specs.Prelude.{◌≡◌, ℕ, suc, ◌+◌, ◌-◌, ◌<◌, ◌≤◌, min, nat_lt, if◌then◌else◌, Bool, true, All, List, [], ◌∷◌, length, take, Result, Ok, Err}
use Rattle.hk_types.specs.Values.{RowValue}
use Rattle.hk_types.specs.declared.faults.Refusal.{Refusal}
use Rattle.hk_model.specs.Replica.Answers.{AnswerValue, One, Rows, Number}
use Rattle.hk_model.specs.declared.page.Page.{Page}

-- the value of a `Page`
pub record PageValue : Type 0 where
  pub rows : List (ℕ × RowValue)
  pub more : Bool

-- the value that a `Page` has
abbrev pub page_seen : Page → PageValue
page_seen page = record { rows = page.rows.items; more = page.more }

-- the bytes of a row with its key: 8 of the key, 4 of the tag, 2 of the body's length, and the body
abbrev pub row_size : ℕ × RowValue → ℕ
row_size e = 14 + length e.1.body

-- the bytes of these rows
abbrev pub rows_size : List (ℕ × RowValue) → ℕ
rows_size [] = 0
rows_size (e ∷ rows) = row_size e + rows_size rows

-- how many of these rows, from the first on, there is room for
abbrev pub rows_within : ℕ → List (ℕ × RowValue) → ℕ
rows_within room [] = 0
rows_within room (e ∷ rows) = if nat_lt room (row_size e) then 0 else suc (rows_within (room - row_size e) rows)

-- how many of these rows a page of at most so many has: the first one even if it is larger than the room
abbrev pub page_len : ℕ → ℕ → List (ℕ × RowValue) → ℕ
page_len most room [] = 0
page_len most room (e ∷ rows) = min most (suc (rows_within (room - row_size e) rows))

-- the first page of these rows, and whether more follow
abbrev pub page_of : ℕ → ℕ → List (ℕ × RowValue) → PageValue
page_of most room rows =
    record { rows = take (page_len most room rows) rows; more = nat_lt (page_len most room rows) (length rows) }

-- the room of a page in a message
abbrev pub page_room : ℕ
page_room = 268435449

-- the rows of an answer that is a list of rows
abbrev pub answered_rows : AnswerValue → List (ℕ × RowValue)
answered_rows (One row) = []
answered_rows (Rows rows) = rows
answered_rows (Number n) = []

-- the first page of what is replied to a range
abbrev pub page_reply : ℕ → Result AnswerValue Refusal → Result PageValue Refusal
page_reply most (Ok a) = Ok (page_of most page_room (answered_rows a))
page_reply most (Err why) = Err why

-- the rows of a page are no larger together than the room, where each alone is no larger
abbrev pub PageFits : Type 0
PageFits =
    (most room : ℕ) (rows : List (ℕ × RowValue)) → All (λ e. row_size e ≤ room) rows
    → rows_size (page_of most room rows).rows ≤ room

-- a page after which more rows follow has one at least, where one is wanted
abbrev pub PageGoesOn : Type 0
PageGoesOn =
    (most room : ℕ) (rows : List (ℕ × RowValue)) → 0 < most → (page_of most room rows).more ≡ true
    → 0 < length (page_of most room rows).rows
