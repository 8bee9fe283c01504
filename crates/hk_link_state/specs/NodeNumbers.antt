-- The numbers of a node, and the tables that it holds.
use Rattle.std.specs.Prelude.{◌≡◌, ℕ, Bool, if◌then◌else◌, List, [], ◌∷◌, length}
use Rattle.hk_answers.specs.declared.metrics.Metric.{Metric}
use Rattle.hk_store.specs.Reads.{facts_of_content}
use Rattle.hk_store.specs.TableLists.{AreTables}
use Rattle.hk_oplog.specs.declared.sizes.NodeSizes.{NodeSizes}
use Rattle.hk_oplog.specs.NodeContent.{NodeContent}

-- what is counted of a node agrees with what it holds: its operations, whether it is guarded, whether it met a conflict, and its pins
abbrev pub AreSizesOf : NodeContent → NodeSizes → Type 0
AreSizesOf c sizes = (sizes.operations ≡ c.op_count) × (sizes.guarded ≡ c.guarded) × (sizes.damaged ≡ c.damaged) × (sizes.pins ≡ length c.holds)

-- these are the tables of which a node holds anything
abbrev pub AreTablesOf : NodeContent → List ℕ → Type 0
AreTablesOf c tables = AreTables (facts_of_content c.content) tables

-- 1 for yes, 0 for no
abbrev pub yes_number : Bool → ℕ
yes_number b = if b then 1 else 0

-- a metric that has no label
abbrev pub metric_of : ℕ → ℕ → Metric
metric_of name value = record { name = name; label = 0; value = value }

-- rows, ends, bytes of bodies, operations, whether it is guarded, whether it met a conflict, pins
abbrev pub sizes_metrics : NodeSizes → List Metric
sizes_metrics sizes =
    metric_of 1 sizes.rows ∷ metric_of 2 sizes.ends ∷ metric_of 3 sizes.bytes ∷ metric_of 4 sizes.operations
    ∷ metric_of 5 (yes_number sizes.guarded) ∷ metric_of 6 (yes_number sizes.damaged) ∷ metric_of 7 sizes.pins ∷ []
