-- What an index of versions holds, and what it lists.
use Rattle.std.specs.Prelude.{◌≡◌, ℕ, Bool, ◌&&◌, ◌==◌, nat_le, List}
use Rattle.std.specs.List.Sorted.{IsStrictlySortedBy}
use Rattle.std.specs.FinSet as set
use Rattle.hk_types.specs.declared.version_key.VersionKey.{VersionKey}
use Rattle.hk_model.specs.History.Rows.{version_key_cmp}

-- the list has the versions of the set, in rising order
pub record Lists (versions : List VersionKey) (index : set.FinSet version_key_cmp) : Type 0 where
  pub same : set.from_list versions ≡ index
  pub rising : IsStrictlySortedBy version_key_cmp versions

-- the versions of a table with keys from low to high
abbrev pub with_keys : set.FinSet version_key_cmp → ℕ → ℕ → ℕ → set.FinSet version_key_cmp
with_keys index table low high = set.retain index (λ v. (v.table == table) && (nat_le low v.key && nat_le v.key high))

-- whether a version is of the table, with a key up to high
abbrev pub is_up_to : ℕ → ℕ → VersionKey → Bool
is_up_to table high v = (v.table == table) && nat_le v.key high
