-- Rows and their versions: the names of rows, and the orders of the names.
use Rattle.std.specs.Prelude.{ℕ}
use Rattle.std.specs.declared.cmp.Ordering.{Ordering}
use Rattle.std.specs.Ordering.{nat_cmp, on, then_cmp}
use Rattle.hk_types.specs.declared.version_key.VersionKey.{VersionKey}

-- the name of a row
pub record RowKey : Type 0 where
  pub table : ℕ
  pub key : ℕ

-- rows are in the order of table, then key
abbrev pub row_key_cmp : RowKey → RowKey → Ordering
row_key_cmp = then_cmp (on (λ k. k.table) nat_cmp) (on (λ k. k.key) nat_cmp)

-- versions are in the order of table, then key, then born
abbrev pub version_key_cmp : VersionKey → VersionKey → Ordering
version_key_cmp = then_cmp (on (λ v. v.table) nat_cmp) (then_cmp (on (λ v. v.key) nat_cmp) (on (λ v. v.born) nat_cmp))

-- the row of a version
abbrev pub row_key_of : VersionKey → RowKey
row_key_of v = record { table = v.table; key = v.key }

-- the version of a row that was born at a time
abbrev pub version_of : RowKey → ℕ → VersionKey
version_of k born = record { table = k.table; key = k.key; born = born }
