-- The lines that are printed for answers, refusals and items, each with its line feed.
use Rattle.std.specs.Prelude.{ℕ, List, [], ◌∷◌, ◌++◌, length, codes, Some, None}
use Rattle.std.specs.List.{flat_map}
use Rattle.std.specs.Fmt.{decimal}
use Rattle.hex.specs.Hex.{encode_lower}
use Rattle.hk_types.specs.Values.{RowValue}
use Rattle.hk_types.specs.declared.faults.Refusal.{Refusal}
use Rattle.hk_types.specs.declared.faults.Refusal.TheVariants.{Gap, AheadOfMark, TooOld, NotYet, WriteConflict, NoRow, Retired, Held, Unpublished, LinkFull}
use Rattle.hk_types.specs.FaultNumbers.{refusal_number}
use Rattle.hk_log.specs.Items.{MarkValue}
use Rattle.hk_log.specs.declared.item.Item.{Item}
use Rattle.hk_codec.specs.declared.outline.EntryOutline.{EntryOutline}
use Rattle.hk_codec.specs.declared.outline.ItemOutline.{ItemOutline}
use Rattle.hk_codec.specs.declared.outline.ItemOutline.TheVariants.{Commit, Closed}
use Rattle.hk_codec.specs.Outlines.{item_outline}
use Rattle.hk_model.specs.declared.took.Took.TheVariants.{Taken, Repeated}
use Rattle.hk_model.specs.World.Worlds.{ToldValue}
use Rattle.hk_model.specs.World.Worlds.ToldValue.{Committed, Marked, Absorbed, Done, Answered, Fronted, Refused}
use Rattle.hk_model.specs.Replica.Answers.{AnswerValue}
use Rattle.hk_model.specs.Replica.Answers.AnswerValue.{One, Rows, Number}

-- a line feed
abbrev pub line_end : List ℕ
line_end = codes "\n"

-- lower-case hexadecimal digits, two a byte; an empty body is a dash
abbrev pub body_text : List ℕ → List ℕ
body_text [] = codes "-"
body_text (b ∷ bytes) = encode_lower (b ∷ bytes)

-- a row's tag and its body
abbrev pub row_text : RowValue → List ℕ
row_text row = decimal row.tag ++ codes " " ++ body_text row.body

-- a row behind its key, on a line of its own
abbrev pub keyed_line : ℕ × RowValue → List ℕ
keyed_line r = decimal r.0 ++ codes " " ++ row_text r.1 ++ line_end

-- what is printed of an answer
abbrev pub answer_lines : AnswerValue → List ℕ
answer_lines (One None) = codes "none" ++ line_end
answer_lines (One (Some row)) = row_text row ++ line_end
answer_lines (Rows rows) = flat_map keyed_line rows ++ codes "rows " ++ decimal (length rows) ++ line_end
answer_lines (Number n) = codes "count " ++ decimal n ++ line_end

-- a field behind its name
abbrev pub field : List ℕ → ℕ → List ℕ
field name value = codes " " ++ name ++ codes " " ++ decimal value

-- the fields of a refusal, in their order
abbrev pub fields_of : Refusal → List ℕ
fields_of (Gap base readable) = field (codes "base") base ++ field (codes "readable") readable
fields_of (AheadOfMark readable) = field (codes "readable") readable
fields_of (TooOld horizon) = field (codes "horizon") horizon
fields_of (NotYet readable) = field (codes "readable") readable
fields_of (WriteConflict table key at) = field (codes "table") table ++ field (codes "key") key ++ field (codes "at") at
fields_of (NoRow table key) = field (codes "table") table ++ field (codes "key") key
fields_of (Retired stream) = field (codes "stream") stream
fields_of (Held reader at) = field (codes "reader") reader ++ field (codes "at") at
fields_of (Unpublished ops) = field (codes "ops") ops
fields_of (LinkFull most) = field (codes "most") most
fields_of other = []

-- what is printed of a refusal: its number, then its fields
abbrev pub refusal_line : Refusal → List ℕ
refusal_line why = codes "refused " ++ decimal (refusal_number why) ++ fields_of why ++ line_end

-- where and when an entry stands
abbrev pub entry_place : EntryOutline → List ℕ
entry_place e = codes "commit log " ++ decimal e.log ++ codes " stream " ++ decimal e.stream ++ codes " number " ++ decimal e.number ++ codes " time " ++ decimal e.time

-- how many versions it ended, and how many rows it put in
abbrev pub entry_counts : EntryOutline → List ℕ
entry_counts e = codes " ends " ++ decimal e.ends ++ codes " rows " ++ decimal e.rows ++ line_end

-- what is printed of an entry
abbrev pub entry_line : EntryOutline → List ℕ
entry_line e = entry_place e ++ entry_counts e

-- what is printed of a mark
abbrev pub mark_line : MarkValue → List ℕ
mark_line m =
    codes "mark log " ++ decimal m.log ++ codes " stream " ++ decimal m.stream ++ codes " n " ++ decimal m.count ++ codes " m " ++ decimal m.upto ++ line_end

-- what is printed of an item, by its outline alone
abbrev pub outline_line : ItemOutline → List ℕ
outline_line (Commit e) = entry_line e
outline_line (Closed m) = mark_line m

abbrev pub item_line : Item → List ℕ
item_line item = outline_line (item_outline item)

-- what is printed of a mark when it is emitted
abbrev pub emitted_line : MarkValue → List ℕ
emitted_line m = codes "mark stream " ++ decimal m.stream ++ codes " n " ++ decimal m.count ++ codes " m " ++ decimal m.upto ++ line_end

-- what is printed of a front
abbrev pub front_line : ℕ → ℕ → List ℕ
front_line horizon readable = codes "front horizon " ++ decimal horizon ++ codes " readable " ++ decimal readable ++ line_end

-- what is printed of what a world is told
abbrev pub outcome_lines : ToldValue → List ℕ
outcome_lines (Committed None) = codes "committed none" ++ line_end
outcome_lines (Committed (Some time)) = codes "committed " ++ decimal time ++ line_end
outcome_lines (Marked m) = emitted_line m
outcome_lines (Absorbed Taken) = codes "taken" ++ line_end
outcome_lines (Absorbed Repeated) = codes "repeated" ++ line_end
outcome_lines Done = codes "ok" ++ line_end
outcome_lines (Answered answer) = answer_lines answer
outcome_lines (Fronted horizon readable) = front_line horizon readable
outcome_lines (Refused why) = refusal_line why
