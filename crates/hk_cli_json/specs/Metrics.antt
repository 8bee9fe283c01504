-- The lines of a node's numbers and of its tables.
use Rattle.std.specs.Prelude.{ℕ, List, [], ◌∷◌, ◌++◌, codes}
use Rattle.hk_cli_json.specs.Fields.{joined, string, wide, small}
use Rattle.hk_cli_json.specs.declared.metric.MetricLine.{MetricLine}
use Rattle.hk_cli_json.specs.declared.metric.TableLine.{TableLine}

-- the name of a metric, in a word and as a number
abbrev pub name_part : List ℕ → ℕ → List ℕ
name_part word name = joined (codes "{" ∷ string (codes "metric") word ++ codes "," ∷ small (codes "name") name)

-- its label and its value
abbrev pub value_part : ℕ → ℕ → List ℕ
value_part label value = joined (codes "," ∷ small (codes "label") label ++ codes "," ∷ wide (codes "value") value ++ codes "}\n" ∷ [])

-- the line of a metric
abbrev pub metric_line : List ℕ → ℕ → ℕ → ℕ → List ℕ
metric_line word name label value = name_part word name ++ value_part label value

-- the line of a table
abbrev pub table_line : ℕ → List ℕ
table_line table = joined (codes "{" ∷ small (codes "table") table ++ codes "}\n" ∷ [])

-- the same of the fields of a `MetricLine` and of a `TableLine`
abbrev pub metric_of : MetricLine → List ℕ
metric_of l = metric_line l.word.now l.name l.label l.value

abbrev pub table_of : TableLine → List ℕ
table_of l = table_line l.table
