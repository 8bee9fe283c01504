-- Answers: their encoding and their reading.
use Rattle.std.specs.Prelude.{ℕ, ◌^◌, ◌<◌, ◌≤◌, Bool, true, not, ◌&&◌, nat_lt, ◌==◌, if◌then◌else◌, List, [], ◌∷◌, ◌++◌, length, Option, Some, None, Err}
use Rattle.std.specs.Int.{w16, w32, w64}
use Rattle.std.specs.List.{flat_map, AllByRecursion}
use Rattle.hk_types.specs.Values.{RowValue}
use Rattle.hk_types.specs.declared.faults.FormFault.TheVariants.{BadNumber, BadOrder}
use Rattle.hk_model.specs.Replica.Answers.{AnswerValue, One, Rows, Number}
use Rattle.hk_frames.specs.Fields.{number, number_at, body_at, list_at}
use Rattle.hk_answers.specs.Readers.{Reader, both, fault_where, mapped_value, nothing, by_kind, list_by_count}

-- a row: the tag, the length of the body, the body
unfoldable pub row_text : RowValue → List ℕ
row_text row = number w32 row.tag ++ (number w16 (length row.body) ++ row.body)

-- a key and its row
unfoldable pub keyed_text : ℕ × RowValue → List ℕ
keyed_text e = number w64 e.0 ++ row_text e.1

-- rows with their keys behind their count
abbrev pub rows_text : List (ℕ × RowValue) → List ℕ
rows_text rows = number w32 (length rows) ++ flat_map keyed_text rows

-- whether there is a row, and the row
abbrev pub presence : Option RowValue → ℕ
presence None = 0
presence (Some row) = 1

abbrev pub present_text : Option RowValue → List ℕ
present_text None = []
present_text (Some row) = row_text row

-- the kind byte of an answer
abbrev pub answer_kind : AnswerValue → ℕ
answer_kind (One row) = 1
answer_kind (Rows rows) = 2
answer_kind (Number n) = 3

-- what follows it
abbrev pub answer_fields : AnswerValue → List ℕ
answer_fields (One row) = presence row ∷ present_text row
answer_fields (Rows rows) = rows_text rows
answer_fields (Number n) = number w64 n

-- the encoding of an answer
unfoldable pub answer_text : AnswerValue → List ℕ
answer_text a = answer_kind a ∷ answer_fields a

-- whether a key comes after the one before it, where there is one
abbrev pub key_follows : Option ℕ → ℕ → Bool
key_follows None key = true
key_follows (Some before) key = nat_lt before key

-- whether the keys rise strictly, the first of them after the key before it
abbrev pub keys_rise : Option ℕ → List (ℕ × RowValue) → Bool
keys_rise before [] = true
keys_rise before (e ∷ rows) = key_follows before e.0 && keys_rise (Some e.0) rows

-- whether an answer keeps its rules: the keys of its rows rise strictly, and they can be counted
abbrev pub answer_keeps_rules : AnswerValue → Bool
answer_keeps_rules (One row) = true
answer_keeps_rules (Rows rows) = nat_lt (length rows) (2 ^ 32) && keys_rise None rows
answer_keeps_rules (Number n) = true

-- a row whose tag and body fit their fields
pub record RowFits (row : RowValue) : Type 0 where
  pub tag : row.tag < 2 ^ 32
  pub body : length row.body ≤ 4096

-- a row, if there is one
abbrev pub PresentFits : Option RowValue → Type 0
PresentFits None = Unit {0}
PresentFits (Some row) = RowFits row

-- a key and a row
abbrev pub KeyedFits : ℕ × RowValue → Type 0
KeyedFits e = (e.0 < 2 ^ 64) × RowFits e.1

-- an answer whose numbers and bodies fit their fields
abbrev pub AnswerFits : AnswerValue → Type 0
AnswerFits (One row) = PresentFits row
AnswerFits (Rows rows) = AllByRecursion KeyedFits rows
AnswerFits (Number n) = n < 2 ^ 64

-- a row
unfoldable pub row_at : Reader RowValue
row_at bytes = mapped_value (λ p. record { tag = p.0; body = p.1 }) (both (number_at w32) body_at) bytes

-- a key after the one before it
abbrev pub key_at : Option ℕ → Reader ℕ
key_at before bytes = fault_where (number_at w64) (λ key. not (key_follows before key)) BadOrder bytes

-- a key after the one before it, and its row
unfoldable pub keyed_at : Option ℕ → Reader (ℕ × RowValue)
keyed_at before bytes = both (key_at before) row_at bytes

-- so many keys and rows
abbrev pub keyed_rows_at : ℕ → Option ℕ → Reader (List (ℕ × RowValue))
keyed_rows_at count before bytes = list_at (λ e. e.0) keyed_at count before bytes

-- the rows behind their count
unfoldable pub rows_at : Reader (List (ℕ × RowValue))
rows_at bytes = list_by_count (λ e. e.0) keyed_at bytes

-- what follows the byte that tells whether there is a row
unfoldable pub present_of : ℕ → Reader (Option RowValue)
present_of kind bytes =
    if kind == 0 then nothing None bytes
    else if kind == 1 then mapped_value (λ row. Some row) row_at bytes
    else Err BadNumber

-- the answer of a kind
unfoldable pub answer_of : ℕ → Reader AnswerValue
answer_of kind bytes =
    if kind == 1 then mapped_value (λ row. One row) (by_kind present_of) bytes
    else if kind == 2 then mapped_value (λ rows. Rows rows) rows_at bytes
    else if kind == 3 then mapped_value (λ n. Number n) (number_at w64) bytes
    else Err BadNumber

-- an answer behind its kind
unfoldable pub answer_at : Reader AnswerValue
answer_at bytes = by_kind answer_of bytes
