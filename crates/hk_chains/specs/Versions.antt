-- Facts as a list of versions.
use Rattle.std.specs.Prelude.{◌≡◌, ℕ, Bool, ◌||◌, ◌&&◌, ◌==◌, All, List, [], ◌++◌, map, filter, Option, Some, None, is_some}
use Rattle.std.specs.List.{flat_map}
use Rattle.std.specs.Borrow.{Bor}
use Rattle.std.specs.List.Sorted.{IsStrictlySortedBy}
use Rattle.hk_types.specs.Values.{same_row}
use Rattle.hk_types.specs.declared.version_key.VersionKey.{VersionKey}
use Rattle.hk_log.specs.Versions.{VersionValue}
use Rattle.hk_model.specs.History.Rows.{RowKey, row_key_of, version_of, version_key_cmp}
use Rattle.hk_model.specs.Replica.Maps.{values_conflict}
use Rattle.std.specs.FinMap as finmap
use Rattle.hk_facts.specs.Chains.{ChainValue, IsEarliest, FirstBorn, is_after}
use Rattle.hk_chains.specs.Facts.{FactsValue, known_at}
use Rattle.hk_chains.specs.Drops.{is_among}

-- a version key with what is borrowed of its version
abbrev pub borrowed : VersionKey × Bor VersionValue → VersionKey × VersionValue
borrowed e = (e.0, e.1.now)

-- some versions come to the end of a list
abbrev pub AddsVersions : List (VersionKey × Bor VersionValue) → List (VersionKey × Bor VersionValue) → List (VersionKey × VersionValue) → Type 0
AddsVersions old new coming = map borrowed new ≡ map borrowed old ++ coming

-- the list has each version of which anything is known, with what is known of it, in rising order
pub record AreVersions (f : FactsValue) (versions : List (VersionKey × VersionValue)) : Type 0 where
  pub known : All (λ e. known_at f e.0 ≡ Some e.1) versions
  pub all : (v : VersionKey) → is_some (known_at f v) ≡ is_among (map (λ e. e.0) versions) v
  pub rising : IsStrictlySortedBy version_key_cmp (map (λ e. e.0) versions)

-- the list has each of some versions of which anything is known, with what is known of it, in rising order
pub record AreVersionsOf (f : FactsValue) (some : VersionKey → Bool) (versions : List (VersionKey × VersionValue)) : Type 0 where
  pub known : All (λ e. known_at f e.0 ≡ Some e.1) versions
  pub all : (v : VersionKey) → (some v && is_some (known_at f v)) ≡ is_among (map (λ e. e.0) versions) v
  pub rising : IsStrictlySortedBy version_key_cmp (map (λ e. e.0) versions)

-- whether two have different rows, or different ends
abbrev pub versions_differ : VersionValue → VersionValue → Bool
versions_differ a b = values_conflict same_row a.row b.row || values_conflict (λ a b. a == b) a.died b.died

-- whether a version has another row, or another end, than this
abbrev pub value_conflicts_at : FactsValue → VersionKey → VersionValue → Bool
value_conflicts_at f v known = values_conflict same_row (finmap.get f.rows v) known.row || values_conflict (λ a b. a == b) (finmap.get f.ends v) known.died

-- whether a version has another row, or another end, in the first than in the second
abbrev pub conflict_at : FactsValue → FactsValue → VersionKey → Bool
conflict_at f g v = values_conflict same_row (finmap.get f.rows v) (finmap.get g.rows v) || values_conflict (λ a b. a == b) (finmap.get f.ends v) (finmap.get g.ends v)

-- the version of a row's chain that was born first, or next after a time
abbrev pub NextOf : RowKey → ChainValue → Option ℕ → Option (VersionKey × VersionValue) → Type 0
NextOf row c after (Some found) = (row_key_of found.0 ≡ row) × IsEarliest c (is_after after) (found.0.born, found.1)
NextOf row c after None = FirstBorn c (is_after after) None

-- the versions of a row's chain
abbrev pub versions_of_row : RowKey → List (ℕ × VersionValue) → List (VersionKey × VersionValue)
versions_of_row row es = map (λ e. (version_of row e.0, e.1)) es

-- the versions of the chains of some rows, one row after the other
abbrev pub versions_of_rows : List (RowKey × ChainValue) → List (VersionKey × VersionValue)
versions_of_rows rows = flat_map (λ r. versions_of_row r.0 (finmap.entries r.1)) rows

-- what is left of a walk that stands in a row's chain, behind those born up to a time, with some rows to come
abbrev pub left_of_walk : Option (Bor RowKey × Bor ChainValue) → Option ℕ → List (RowKey × ChainValue) → List (VersionKey × VersionValue)
left_of_walk None after rows = []
left_of_walk (Some here) after rows = versions_of_row here.0.now (filter (λ e. is_after after e.0) (finmap.entries here.1.now)) ++ versions_of_rows rows
