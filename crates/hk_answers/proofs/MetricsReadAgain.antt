-- Metrics and tables: what is read is encoded so, and what is encoded so is read again.
use Rattle.std.proofs.Common.{◌≡◌, ℕ, ◌^◌, ◌<◌, true, ltb, List, [], ◌∷◌, ◌++◌, length, Option, Some, None, refl}
use Rattle.std.specs.Int.{w16, w64}
use Rattle.std.proofs.lemmas.Bool.{ltb-true, lt-ltb, and_from}
use Rattle.hk_types.specs.declared.faults.FormFault.TheVariants.{BadOrder}
use Rattle.hk_frames.specs.Fields.{number, number_at}
use Rattle.hk_frames.proofs.ReadingSteps.{both as both_true}
use Rattle.hk_answers.specs.Readers.{both, list_by_count, Chained}
use Rattle.hk_answers.specs.declared.metrics.Metric.{Metric}
use Rattle.hk_answers.specs.Metrics.{metric_place, metric_text, metrics_text, metric_follows, metrics_rise, metrics_keep_rules, MetricsFit, name_at, metric_at, metrics_at, table_text, tables_text, table_follows, tables_rise, tables_keep_rules, TablesFit, table_at, tables_at}
use Rattle.hk_answers.proofs.ReadersAndEncodings.{IsField, field16, field64, both_field, kept_field, made_field, same_field, counted_field}

-- ---- metrics

abbrev NameIs : Option (ℕ × ℕ) → ℕ × ℕ → Type 0
NameIs before p = ((p.0 < 2 ^ 16) × (p.1 < 2 ^ 16)) × (metric_follows before p ≡ true)

abbrev name_text : ℕ × ℕ → List ℕ
name_text p = number w16 p.0 ++ number w16 p.1

name_field : (before : Option (ℕ × ℕ)) → IsField (name_at before) name_text (NameIs before)
unfolding name_at
name_field before =
    kept_field (both (number_at w16) (number_at w16)) (λ p. metric_follows before p) BadOrder name_text (λ p. (p.0 < 2 ^ 16) × (p.1 < 2 ^ 16))
    (both_field (number_at w16) (number_at w16) (number w16) (number w16) (λ n. n < 2 ^ 16) (λ n. n < 2 ^ 16) field16 field16)

abbrev MetricParts : Type 0
MetricParts = (ℕ × ℕ) × ℕ

abbrev metric_made : MetricParts → Metric
metric_made p = record { name = p.0.0; label = p.0.1; value = p.1 }

abbrev MetricIs : Option (ℕ × ℕ) → Metric → Type 0
MetricIs before m = NameIs before (m.name, m.label) × (m.value < 2 ^ 64)

metric_field : (before : Option (ℕ × ℕ)) → IsField (metric_at before) metric_text (MetricIs before)
unfolding metric_at metric_text
metric_field before =
    made_field metric_made (λ m. ((m.name, m.label), m.value)) (both (name_at before) (number_at w64)) (λ p. name_text p.0 ++ number w64 p.1) _ (λ p. NameIs before p.0 × (p.1 < 2 ^ 64)) (MetricIs before)
    (both_field (name_at before) (number_at w64) name_text (number w64) (NameIs before) (λ n. n < 2 ^ 64) (name_field before) field64)
    (λ p h. (refl, h)) (λ m h. (refl, (refl, h)))

chained : (before : Option (ℕ × ℕ)) (metrics : List Metric) → MetricsFit metrics → metrics_rise before metrics ≡ true → Chained metric_place MetricIs before metrics
chained before [] h rises = tt
chained before (m ∷ metrics) h rises =
    let b = both_true (metric_follows before (m.name, m.label)) (metrics_rise (Some (m.name, m.label)) metrics) rises in
    ((((h.0.0, h.0.1.0), b.0), h.0.1.1), chained (Some (m.name, m.label)) metrics h.1 b.1)

fit_each : (before : Option (ℕ × ℕ)) (metrics : List Metric) → Chained metric_place MetricIs before metrics → MetricsFit metrics
fit_each before [] h = tt
fit_each before (m ∷ metrics) h = ((h.0.0.0.0, (h.0.0.0.1, h.0.1)), fit_each (Some (m.name, m.label)) metrics h.1)

rise_all : (before : Option (ℕ × ℕ)) (metrics : List Metric) → Chained metric_place MetricIs before metrics → metrics_rise before metrics ≡ true
rise_all before [] h = refl
rise_all before (m ∷ metrics) h = and_from (metric_follows before (m.name, m.label)) (metrics_rise (Some (m.name, m.label)) metrics) h.0.0.1 (rise_all (Some (m.name, m.label)) metrics h.1)

abbrev pub AreMetrics : List Metric → Type 0
AreMetrics metrics = MetricsFit metrics × (metrics_keep_rules metrics ≡ true)

pub metrics_field : IsField metrics_at metrics_text AreMetrics
unfolding metrics_at
metrics_field =
    same_field (list_by_count metric_place metric_at) metrics_text (λ metrics. (length metrics < 2 ^ 32) × Chained metric_place MetricIs None metrics) AreMetrics
    (λ metrics h. (fit_each None metrics h.1, and_from (ltb (length metrics) (2 ^ 32)) (metrics_rise None metrics) (lt-ltb _ _ h.0) (rise_all None metrics h.1)))
    (λ metrics h. let b = both_true (ltb (length metrics) (2 ^ 32)) (metrics_rise None metrics) h.1 in (ltb-true _ _ b.0, chained None metrics h.0 b.1))
    (counted_field metric_place metric_at metric_text MetricIs metric_field)

-- ---- tables

abbrev TableIs : Option ℕ → ℕ → Type 0
TableIs before table = (table < 2 ^ 16) × (table_follows before table ≡ true)

abbrev table_place : ℕ → ℕ
table_place table = table

table_field : (before : Option ℕ) → IsField (table_at before) table_text (TableIs before)
unfolding table_at
table_field before = kept_field (number_at w16) (λ table. table_follows before table) BadOrder table_text (λ table. table < 2 ^ 16) field16

tables_chained : (before : Option ℕ) (tables : List ℕ) → TablesFit tables → tables_rise before tables ≡ true → Chained table_place TableIs before tables
tables_chained before [] h rises = tt
tables_chained before (table ∷ tables) h rises =
    let b = both_true (table_follows before table) (tables_rise (Some table) tables) rises in
    ((h.0, b.0), tables_chained (Some table) tables h.1 b.1)

tables_fit : (before : Option ℕ) (tables : List ℕ) → Chained table_place TableIs before tables → TablesFit tables
tables_fit before [] h = tt
tables_fit before (table ∷ tables) h = (h.0.0, tables_fit (Some table) tables h.1)

tables_rise_all : (before : Option ℕ) (tables : List ℕ) → Chained table_place TableIs before tables → tables_rise before tables ≡ true
tables_rise_all before [] h = refl
tables_rise_all before (table ∷ tables) h = and_from (table_follows before table) (tables_rise (Some table) tables) h.0.1 (tables_rise_all (Some table) tables h.1)

abbrev pub AreTables : List ℕ → Type 0
AreTables tables = TablesFit tables × (tables_keep_rules tables ≡ true)

pub tables_field : IsField tables_at tables_text AreTables
unfolding tables_at
tables_field =
    same_field (list_by_count table_place table_at) tables_text (λ tables. (length tables < 2 ^ 32) × Chained table_place TableIs None tables) AreTables
    (λ tables h. (tables_fit None tables h.1, and_from (ltb (length tables) (2 ^ 32)) (tables_rise None tables) (lt-ltb _ _ h.0) (tables_rise_all None tables h.1)))
    (λ tables h. let b = both_true (ltb (length tables) (2 ^ 32)) (tables_rise None tables) h.1 in (ltb-true _ _ b.0, tables_chained None tables h.0 b.1))
    (counted_field table_place table_at table_text TableIs table_field)
