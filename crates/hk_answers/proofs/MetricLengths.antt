-- How long the encodings of metrics and of tables are.
use Rattle.std.proofs.Common.{◌≡◌, ℕ, ◌+◌, List, length, refl, arith}
use Rattle.std.specs.List.{flat_map}
use Rattle.std.proofs.lemmas.List.{length-append}
use Rattle.hk_codec.proofs.Lengths.{len16, len32, len64}
use Rattle.hk_answers.specs.declared.metrics.Metric.{Metric}
use Rattle.hk_answers.specs.Metrics.{metric_text, metrics_text, table_text, tables_text}

pub metric_text_len : (m : Metric) → length (metric_text m) ≡ 12
unfolding metric_text
metric_text_len m = simp (length-append, len64, len16) refl

pub metrics_text_len : (metrics : List Metric) → length (metrics_text metrics) ≡ 4 + length (flat_map metric_text metrics)
metrics_text_len metrics = simp (length-append, len32) (omega arith)

pub table_text_len : (table : ℕ) → length (table_text table) ≡ 2
table_text_len table = len16 table

pub tables_text_len : (tables : List ℕ) → length (tables_text tables) ≡ 4 + length (flat_map table_text tables)
tables_text_len tables = simp (length-append, len32) (omega arith)
