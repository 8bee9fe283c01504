-- Metrics of a node, and lists of tables: their encoding and their reading.
use Rattle.std.specs.Prelude.{ℕ, ◌^◌, ◌<◌, Bool, true, not, ◌&&◌, ◌||◌, ◌==◌, nat_lt, List, [], ◌∷◌, ◌++◌, length, Option, Some, None}
use Rattle.std.specs.Int.{w16, w32, w64}
use Rattle.std.specs.List.{flat_map, AllByRecursion}
use Rattle.hk_types.specs.declared.faults.FormFault.TheVariants.{BadOrder}
use Rattle.hk_frames.specs.Fields.{number, number_at, list_at}
use Rattle.hk_answers.specs.Readers.{Reader, both, fault_where, mapped_value, list_by_count}
use Rattle.hk_answers.specs.declared.metrics.Metric.{Metric}

-- ---- metrics

-- where a metric stands: its name and its label
abbrev pub metric_place : Metric → ℕ × ℕ
metric_place m = (m.name, m.label)

-- the name, the label, the value
unfoldable pub metric_text : Metric → List ℕ
metric_text m = (number w16 m.name ++ number w16 m.label) ++ number w64 m.value

-- metrics behind their count
abbrev pub metrics_text : List Metric → List ℕ
metrics_text metrics = number w32 (length metrics) ++ flat_map metric_text metrics

-- whether a name and a label come after those before them, where there are some
abbrev pub metric_follows : Option (ℕ × ℕ) → ℕ × ℕ → Bool
metric_follows None p = true
metric_follows (Some before) p = nat_lt before.0 p.0 || ((before.0 == p.0) && nat_lt before.1 p.1)

-- whether metrics rise strictly, the first of them after the one before it
abbrev pub metrics_rise : Option (ℕ × ℕ) → List Metric → Bool
metrics_rise before [] = true
metrics_rise before (m ∷ metrics) = metric_follows before (m.name, m.label) && metrics_rise (Some (m.name, m.label)) metrics

-- whether metrics keep their rules: they can be counted, and rise strictly
abbrev pub metrics_keep_rules : List Metric → Bool
metrics_keep_rules metrics = nat_lt (length metrics) (2 ^ 32) && metrics_rise None metrics

-- a metric whose numbers fit their fields
abbrev pub MetricFits : Metric → Type 0
MetricFits m = (m.name < 2 ^ 16) × ((m.label < 2 ^ 16) × (m.value < 2 ^ 64))

abbrev pub MetricsFit : List Metric → Type 0
MetricsFit metrics = AllByRecursion MetricFits metrics

-- a name and a label after those before them
unfoldable pub name_at : Option (ℕ × ℕ) → Reader (ℕ × ℕ)
name_at before bytes = fault_where (both (number_at w16) (number_at w16)) (λ p. not (metric_follows before p)) BadOrder bytes

-- a metric after the one before it
unfoldable pub metric_at : Option (ℕ × ℕ) → Reader Metric
metric_at before bytes = mapped_value (λ p. record { name = p.0.0; label = p.0.1; value = p.1 }) (both (name_at before) (number_at w64)) bytes

-- so many metrics
abbrev pub metric_list_at : ℕ → Option (ℕ × ℕ) → Reader (List Metric)
metric_list_at count before bytes = list_at metric_place metric_at count before bytes

-- the metrics behind their count
unfoldable pub metrics_at : Reader (List Metric)
metrics_at bytes = list_by_count metric_place metric_at bytes

-- ---- tables

-- a table by its number
abbrev pub table_text : ℕ → List ℕ
table_text table = number w16 table

-- tables behind their count
abbrev pub tables_text : List ℕ → List ℕ
tables_text tables = number w32 (length tables) ++ flat_map table_text tables

-- whether a table comes after the one before it, where there is one
abbrev pub table_follows : Option ℕ → ℕ → Bool
table_follows None table = true
table_follows (Some before) table = nat_lt before table

-- whether tables rise strictly, the first of them after the one before it
abbrev pub tables_rise : Option ℕ → List ℕ → Bool
tables_rise before [] = true
tables_rise before (table ∷ tables) = table_follows before table && tables_rise (Some table) tables

-- whether tables keep their rules: they can be counted, and rise strictly
abbrev pub tables_keep_rules : List ℕ → Bool
tables_keep_rules tables = nat_lt (length tables) (2 ^ 32) && tables_rise None tables

-- a table whose number fits its field
abbrev pub TableFits : ℕ → Type 0
TableFits table = table < 2 ^ 16

abbrev pub TablesFit : List ℕ → Type 0
TablesFit tables = AllByRecursion TableFits tables

-- a table after the one before it
unfoldable pub table_at : Option ℕ → Reader ℕ
table_at before bytes = fault_where (number_at w16) (λ table. not (table_follows before table)) BadOrder bytes

-- so many tables
abbrev pub table_list_at : ℕ → Option ℕ → Reader (List ℕ)
table_list_at count before bytes = list_at (λ table. table) table_at count before bytes

-- the tables behind their count
unfoldable pub tables_at : Reader (List ℕ)
tables_at bytes = list_by_count (λ table. table) table_at bytes
