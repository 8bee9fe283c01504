-- The tables of which anything is held.
use Rattle.std.specs.Prelude.{◌≡◌, ◌<◌, ◌≤◌, ◌==◌, ◌^◌, ℕ, true, List}
use Rattle.std.specs.List.{AllByRecursion, list_any}
use Rattle.std.specs.List.Sorted.{IsStrictlySortedBy}
use Rattle.std.specs.Ordering.{nat_cmp}
use Rattle.hk_types.specs.declared.version_key.VersionKey.{VersionKey}
use Rattle.hk_chains.specs.Facts.{FactsValue}
use Rattle.hk_chains.specs.Indexed.{has_fact}

-- a row or an end of a version of the table is known
abbrev pub HasTable : FactsValue → ℕ → Type 0
HasTable f table = (v : VersionKey) × (v.table ≡ table) × (has_fact f v ≡ true)

-- each table from the first one on that has such a version is this one or a later one
abbrev pub NoneBetween : FactsValue → ℕ → ℕ → Type 0
NoneBetween f first table = (v : VersionKey) → has_fact f v ≡ true → first ≤ v.table → table ≤ v.table

-- the list has each table of which a row or an end is known, by rising number, and no other; tables have numbers of 16 bits
pub record AreTables (f : FactsValue) (tables : List ℕ) : Type 0 where
  pub rising : IsStrictlySortedBy nat_cmp tables
  pub held : AllByRecursion (HasTable f) tables
  pub all : (v : VersionKey) → v.table < 2 ^ 16 → has_fact f v ≡ true → list_any (λ t. t == v.table) tables ≡ true
