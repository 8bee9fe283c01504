-- The lines that are printed of a node's numbers and of its tables, each with its line feed.
use Rattle.std.specs.Prelude.{ℕ, Bool, true, ◌||◌, not, ◌==◌, if◌then◌else◌, List, [], ◌∷◌, ◌++◌, length, codes}
use Rattle.std.specs.List.{flat_map}
use Rattle.std.specs.Fmt.{decimal}
use Rattle.hk_answers.specs.declared.metrics.Metric.{Metric}
use Rattle.hk_cli_fields.specs.Lines.{line_end}

-- ---- numbers

-- the word of a name of what the node holds and did; nothing where it has none
abbrev pub word_of_content : ℕ → List ℕ
word_of_content name =
    if name == 1 then codes "rows"
    else if name == 2 then codes "ends"
    else if name == 3 then codes "body_bytes"
    else if name == 4 then codes "operations"
    else if name == 5 then codes "guarded"
    else if name == 6 then codes "failed"
    else if name == 7 then codes "pins"
    else if name == 21 then codes "keys"
    else []

-- the same with those of its process and its budgets
abbrev pub word_of_process : ℕ → List ℕ
word_of_process name =
    if name == 8 then codes "seconds"
    else if name == 9 then codes "budget"
    else if name == 10 then codes "reserved"
    else if name == 11 then codes "memory"
    else if name == 20 then codes "program"
    else if name == 22 then codes "memory_limit"
    else word_of_content name

-- the same with those of its connections: all
abbrev pub metric_word : ℕ → List ℕ
metric_word name =
    if name == 12 then codes "open"
    else if name == 13 then codes "opened"
    else if name == 14 then codes "most_open"
    else if name == 15 then codes "bytes_read"
    else if name == 16 then codes "bytes_written"
    else if name == 17 then codes "requests"
    else if name == 18 then codes "refusals"
    else if name == 19 then codes "failed_accepts"
    else word_of_process name

-- whether a name is that of several metrics, which their labels tell apart
abbrev pub is_labelled : ℕ → Bool
is_labelled name = (name == 9) || (name == 10) || (name == 12) || (name == 13) || (name == 14) || (name == 17) || (name == 18)

-- whether the label stands in the line
abbrev pub shows_label : ℕ → ℕ → Bool
shows_label name label = is_labelled name || not (label == 0) || (length (metric_word name) == 0)

-- the word, or the number of a name that has none
abbrev pub name_part : ℕ → List ℕ
name_part name = if length (metric_word name) == 0 then codes "metric " ++ decimal name else metric_word name

abbrev pub label_part : ℕ → ℕ → List ℕ
label_part name label = if shows_label name label then codes " " ++ decimal label else []

-- what is printed of a metric
abbrev pub metric_line : Metric → List ℕ
metric_line m = name_part m.name ++ label_part m.name m.label ++ codes " " ++ decimal m.value ++ line_end

-- what is printed of a node's numbers: how many there are, and each
abbrev pub stats_lines : List Metric → List ℕ
stats_lines metrics = codes "stats " ++ decimal (length metrics) ++ line_end ++ flat_map metric_line metrics

-- ---- tables

-- what is printed of a table
abbrev pub table_line : ℕ → List ℕ
table_line table = codes "table " ++ decimal table ++ line_end

-- what is printed of a node's tables: how many there are, and each
abbrev pub tables_lines : List ℕ → List ℕ
tables_lines tables = codes "tables " ++ decimal (length tables) ++ line_end ++ flat_map table_line tables
