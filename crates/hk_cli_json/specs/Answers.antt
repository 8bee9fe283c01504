-- The lines of answers, and of the range of readable times.
use Rattle.std.specs.Prelude.{ℕ, List, [], ◌∷◌, ◌++◌, codes, Option, Some, None}
use Rattle.hk_types.specs.Values.{RowValue}
use Rattle.hk_model.specs.Replica.Answers.{AnswerValue}
use Rattle.hk_model.specs.Replica.Answers.AnswerValue.{One, Rows, Number}
use Rattle.hk_cli_json.specs.Fields.{joined, wide, listed}
use Rattle.hk_cli_json.specs.Items.{row_end}

-- a row, or null where there is none
abbrev pub maybe_row : Option RowValue → List ℕ
maybe_row (Some row) = codes "{" ++ row_end row
maybe_row None = codes "null"

-- a row behind its key
abbrev pub keyed_text : ℕ × RowValue → List ℕ
keyed_text r = joined (codes "{" ∷ wide (codes "key") r.0 ++ codes "," ∷ row_end r.1 ∷ [])

-- the line of a row that was asked for
abbrev pub one_line : Option RowValue → List ℕ
one_line row = codes "{\"row\":" ++ maybe_row row ++ codes "}\n"

-- the line of an answer
abbrev pub answer_line : AnswerValue → List ℕ
answer_line (One row) = one_line row
answer_line (Rows rows) = codes "{\"rows\":[" ++ listed keyed_text 0 rows ++ codes "]}\n"
answer_line (Number n) = joined (codes "{" ∷ wide (codes "count") n ++ codes "}\n" ∷ [])

-- the line of a range of readable times
abbrev pub front_line : ℕ → ℕ → List ℕ
front_line horizon readable =
    joined (codes "{\"front\":{" ∷ wide (codes "horizon") horizon ++ codes "," ∷ wide (codes "readable") readable
    ++ codes "}}\n" ∷ [])
