-- How many bytes rows take in an answer.
use Rattle.std.specs.Prelude.{ℕ, ◌+◌, min, List, length, Option, Some, None}
use Rattle.std.specs.List.{sum_by}
use Rattle.hk_types.specs.Values.{RowValue}

-- a row with its key: those of its body, 14 more in a message, and 64 for its place in memory
abbrev pub row_size : ℕ × RowValue → ℕ
row_size row = 78 + length row.1.body

-- a row, where there is one
abbrev pub size_if : Option RowValue → ℕ
size_if None = 0
size_if (Some row) = 78 + length row.body

-- rows with their keys, as far as a number of 64 bits has it
abbrev pub answer_size : List (ℕ × RowValue) → ℕ
answer_size rows = min (sum_by row_size rows) 18446744073709551615
