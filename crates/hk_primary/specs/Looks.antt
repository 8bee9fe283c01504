-- What a primary looks up in its tables.
use Rattle.std.specs.Prelude.{◌≡◌, ℕ, ◌≤◌, List, [], ◌∷◌, map, filter, Option, Some, None, Bool, false, not, if◌then◌else◌}
use Rattle.std.specs.FinMap as finmap
use Rattle.std.specs.Option.{option_map}
use Rattle.hk_types.specs.Values.{RowValue}
use Rattle.hk_types.specs.declared.version_key.VersionKey.{VersionKey}
use Rattle.hk_model.specs.History.Rows.{RowKey, version_of}
use Rattle.hk_model.specs.History.Histories.{Transaction, Tables, written_key, tables_of, last_put}
use Rattle.hk_model.specs.History.Commits.{first_conflict, last_written}
use Rattle.hk_model.specs.declared.write_op.WriteOp.{WriteOp}
use Rattle.hk_model.specs.declared.write_op.WriteOp.TheVariants.{Put, Remove}
use Rattle.hk_primary.specs.Txns.{TxnValue, writes_in}
use Rattle.hk_store.specs.Facts.{FactsValue}

-- of the versions of a row that were born at most at t: none has a row, or this one was born last
abbrev pub IsLatest : FactsValue → ℕ → RowKey → Option (ℕ × Option ℕ) → Type 0
IsLatest f t k None = (born : ℕ) (r : RowValue) → finmap.get f.rows (version_of k born) ≡ Some r → born ≤ t → ⊥
IsLatest f t k (Some v) =
    ((r : RowValue) × (finmap.get f.rows (version_of k v.0) ≡ Some r))
    × (v.1 ≡ finmap.get f.ends (version_of k v.0))
    × ((born : ℕ) (r : RowValue) → finmap.get f.rows (version_of k born) ≡ Some r → born ≤ t → born ≤ v.0)

-- the time at which the row that is there was put in, if one is there
abbrev pub put_time_of_row : List Transaction → RowKey → Option ℕ
put_time_of_row history k = if finmap.contains_key (tables_of history) k then Some (last_put history k) else None

-- the versions that these writes end
abbrev pub ended_by_all : List Transaction → List WriteOp → List VersionKey
ended_by_all history writes = map (λ k. version_of k (last_put history k)) (filter (λ k. finmap.contains_key (tables_of history) k) (map written_key writes))

-- the version that was born then, if any was
abbrev pub version_born : RowKey → Option ℕ → List VersionKey
version_born k None = []
version_born k (Some born) = version_of k born ∷ []

-- whether a write removes a row that is not there
abbrev pub removes_none : Tables → WriteOp → Bool
removes_none tables (Put table key row) = false
removes_none tables (Remove table key) = not (finmap.contains_key tables (record { table = table; key = key }))

-- the first key that a transaction writes and that a later commit than its read time wrote, with the time of the last such
abbrev pub conflict_of : List Transaction → TxnValue → Option (RowKey × ℕ)
conflict_of history t = option_map (λ k. (k, last_written history k)) (first_conflict history t.read_at (writes_in t))
