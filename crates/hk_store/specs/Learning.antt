-- What is told of versions, and what facts learn of it.
use Rattle.std.specs.Prelude.{◌≡◌, ◌⊎◌, ℕ, Bool, true, not, ◌||◌, ◌==◌, nat_lt, if◌then◌else◌, List, [], Option, None}
use Rattle.std.specs.List.{flat_map}
use Rattle.std.specs.FinMap as finmap
use Rattle.hk_types.specs.Values.{RowValue, same_row}
use Rattle.hk_types.specs.declared.faults.Refusal.{Refusal}
use Rattle.hk_types.specs.declared.faults.Refusal.TheVariants.{Conflict, Memory}
use Rattle.hk_types.specs.declared.version_key.VersionKey.{VersionKey}
use Rattle.hk_log.specs.Versions.{VersionValue}
use Rattle.hk_model.specs.Replica.Content.{at_most, without_ended}
use Rattle.hk_model.specs.Replica.Maps.{union, values_conflict}
use Rattle.hk_model.specs.Replica.Rules.{contents_conflict}
use Rattle.hk_store.specs.Changes.{with_listed}
use Rattle.hk_chains.specs.Facts.{FactsValue, entry_if}
use Rattle.hk_chains.specs.Reads.{with_facts}
use Rattle.hk_chains.specs.Versions.{AreVersions, value_conflicts_at}
use Rattle.hk_store.specs.declared.learn.LearnScope.{LearnScope}
use Rattle.hk_store.specs.declared.learn.LearnSource.{LearnSource}
use Rattle.hk_store.specs.declared.learn.LearnSource.TheVariants.{Listed, Held}

-- the facts that a list of versions tells
abbrev pub told_by : List (VersionKey × VersionValue) → FactsValue
told_by es = record { rows = finmap.from_entries (flat_map (λ e. entry_if e.0 e.1.row) es); ends = finmap.from_entries (flat_map (λ e. entry_if e.0 e.1.died) es) }

-- the facts that are told: those of a list, or all that another holds
abbrev pub facts_told : LearnSource → FactsValue
facts_told (Listed versions) = told_by versions.now
facts_told (Held facts) = facts.now

-- a list tells of each version once, in rising order
abbrev pub IsTold : LearnSource → Type 0
IsTold (Listed versions) = AreVersions (told_by versions.now) versions.now
IsTold (Held facts) = Unit {0}

-- whether another row is known of a version than is told
abbrev pub row_conflicts : FactsValue → VersionKey → VersionValue → Bool
row_conflicts f v told = values_conflict same_row (finmap.get f.rows v) told.row

-- whether another end is known of it than is told
abbrev pub end_conflicts : FactsValue → VersionKey → VersionValue → Bool
end_conflicts f v told = values_conflict (λ a b. a == b) (finmap.get f.ends v) told.died

-- ---- what comes of it at a horizon h: rows born above it, or all rows where `old`, and ends above it

module _ (old : Bool) (h : ℕ) where
  abbrev pub row_told : VersionKey → VersionValue → Option RowValue
  row_told v told = if nat_lt h v.born || old then told.row else None

  abbrev pub end_told : VersionKey → VersionValue → Option ℕ
  end_told v told = if not (at_most h told.died) then told.died else None

  abbrev pub rows_told : List (VersionKey × VersionValue) → List (VersionKey × RowValue)
  rows_told es = flat_map (λ e. entry_if e.0 (row_told e.0 e.1)) es

  abbrev pub ends_told : List (VersionKey × VersionValue) → List (VersionKey × ℕ)
  ends_told es = flat_map (λ e. entry_if e.0 (end_told e.0 e.1)) es

  -- the facts with what comes of a version, where nothing like it is known
  abbrev pub with_version_told : FactsValue → VersionKey → VersionValue → FactsValue
  with_version_told f v told = with_listed f (entry_if v (row_told v told)) (entry_if v (end_told v told))

  -- the facts with what comes of other facts, where nothing like it is known
  abbrev pub with_told : FactsValue → FactsValue → FactsValue
  with_told f g = record { rows = union f.rows (finmap.retain_keys g.rows (λ v. nat_lt h v.born || old)); ends = union f.ends (without_ended g.ends h g.ends) }

-- ---- what calls leave

-- a version's row, where it comes and none is known
abbrev pub LearnsRow : FactsValue → FactsValue → LearnScope → VersionKey → VersionValue → Type 0
LearnsRow old new coming v told = new ≡ with_listed old (entry_if v (row_told coming.old coming.horizon v told)) []

-- a version's end
abbrev pub LearnsEnd : FactsValue → FactsValue → LearnScope → VersionKey → VersionValue → Type 0
LearnsEnd old new coming v told = new ≡ with_listed old [] (entry_if v (end_told coming.old coming.horizon v told))

-- both
abbrev pub LearnsVersion : FactsValue → FactsValue → LearnScope → VersionKey → VersionValue → Type 0
LearnsVersion old new coming v told = new ≡ with_version_told coming.old coming.horizon old v told

-- all that comes of other facts
abbrev pub Learns : FactsValue → FactsValue → LearnScope → FactsValue → Type 0
Learns old new coming told = new ≡ with_told coming.old coming.horizon old told

-- whether other facts give a version another row, or another end
abbrev pub facts_conflict : FactsValue → FactsValue → Bool
facts_conflict f g = contents_conflict (with_facts f) (with_facts g)

-- why the row of a version is not learnt: it contradicts what is known, or memory was refused
abbrev pub RefusesRow : FactsValue → VersionKey → VersionValue → Refusal → Type 0
RefusesRow f v told why = ((why ≡ Conflict) × (row_conflicts f v told ≡ true)) ⊎ (why ≡ Memory)

-- the same of its end
abbrev pub RefusesEnd : FactsValue → VersionKey → VersionValue → Refusal → Type 0
RefusesEnd f v told why = ((why ≡ Conflict) × (end_conflicts f v told ≡ true)) ⊎ (why ≡ Memory)

-- the same of what is told of a version
abbrev pub RefusesVersion : FactsValue → VersionKey → VersionValue → Refusal → Type 0
RefusesVersion f v told why = ((why ≡ Conflict) × (value_conflicts_at f v told ≡ true)) ⊎ (why ≡ Memory)

-- the same of all that is told
abbrev pub RefusesTold : FactsValue → FactsValue → Refusal → Type 0
RefusesTold f told why = ((why ≡ Conflict) × (facts_conflict f told ≡ true)) ⊎ (why ≡ Memory)
