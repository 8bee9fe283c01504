-- Encodings in pieces: elements from one of them on, as the facts of a fragment, and what comes before the rows of an answer or a page.
use Rattle.std.specs.Prelude.{◌≡◌, ℕ, ◌<◌, ◌≤◌, List, [], ◌∷◌, ◌++◌, length, drop}
use Rattle.std.specs.Int.{w32}
use Rattle.std.specs.List.{flat_map}
use Rattle.hk_types.specs.Values.{RowValue}
use Rattle.hk_model.specs.declared.answer.Answer.{Answer}
use Rattle.hk_model.specs.Replica.Answers.{AnswerValue, One, Rows, Number, answer_seen}
use Rattle.hk_frames.specs.Fields.{number}
use Rattle.hk_model.specs.Replica.Pages.{PageValue}
use Rattle.hk_answers.specs.Answers.{answer_text, keyed_text}
use Rattle.hk_answers.specs.Told.{flag_text}

-- Of the elements from the first of these numbers on, those before the second one were added: all that are left, or more than so
-- many bytes.
pub record AddsFrom {X : Type 0} (text : X → List ℕ) (xs : List X) (from most to : ℕ) (before after : List ℕ) : Type 0 where
  pub more : List ℕ
  pub added : after ≡ before ++ more
  pub rest : more ++ flat_map text (drop to xs) ≡ flat_map text (drop from xs)
  pub first : from ≤ to
  pub within : to ≤ length xs
  pub many : to < length xs → most < length more

-- the rows of an answer
abbrev pub rows_of : AnswerValue → List (ℕ × RowValue)
rows_of (One row) = []
rows_of (Rows rows) = rows
rows_of (Number n) = []

-- what its encoding has before them
unfoldable pub answer_front : AnswerValue → List ℕ
answer_front (One row) = answer_text (One row)
answer_front (Rows rows) = 2 ∷ number w32 (length rows)
answer_front (Number n) = answer_text (Number n)

-- of the rows of an answer those from the first of these numbers on were added, before the second one
abbrev pub AddsRows : Answer → ℕ → ℕ → ℕ → List ℕ → List ℕ → Type 0
AddsRows answer = AddsFrom keyed_text (rows_of (answer_seen answer))

-- what the encoding of a page has before its rows
abbrev pub page_front : PageValue → List ℕ
page_front page = flag_text page.more ++ number w32 (length page.rows)
