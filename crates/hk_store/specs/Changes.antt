-- Facts with others added, and without some.
use Rattle.std.specs.Prelude.{ℕ, Bool, ◌||◌, List, map}
use Rattle.std.specs.List.{list_any}
use Rattle.std.specs.FinMap as finmap
use Rattle.hk_types.specs.Values.{RowValue}
use Rattle.hk_types.specs.declared.version_key.VersionKey.{VersionKey}
use Rattle.hk_model.specs.History.Facts.{inserted_version}
use Rattle.hk_model.specs.History.Rows.{version_key_cmp}
use Rattle.hk_model.specs.Replica.Maps.{union}
use Rattle.hk_chains.specs.Facts.{FactsValue}
use Rattle.hk_chains.specs.Drops.{is_among, without_all}

-- the facts with these rows, where none are known
abbrev pub with_rows : FactsValue → finmap.FinMap version_key_cmp RowValue → FactsValue
with_rows f rows = record { rows = union f.rows rows; ends = f.ends }

-- the facts with these ends, where none are known
abbrev pub with_ends : FactsValue → finmap.FinMap version_key_cmp ℕ → FactsValue
with_ends f ends = record { rows = f.rows; ends = union f.ends ends }

-- the rows that an entry of this time puts in
abbrev pub entry_rows : ℕ → List (ℕ × ℕ × RowValue) → finmap.FinMap version_key_cmp RowValue
entry_rows time rows = finmap.from_entries (map (inserted_version time) rows)

-- the ends that an entry of this time gives
abbrev pub entry_ends : ℕ → List VersionKey → finmap.FinMap version_key_cmp ℕ
entry_ends time ends = finmap.from_entries (map (λ v. (v, time)) ends)

-- the facts with these rows and ends, where none are known
abbrev pub with_listed : FactsValue → List (VersionKey × RowValue) → List (VersionKey × ℕ) → FactsValue
with_listed f rows ends = record { rows = union f.rows (finmap.from_entries rows); ends = union f.ends (finmap.from_entries ends) }

-- the facts without these versions, and then with these rows and ends, where none are known
abbrev pub facts_after_replace : FactsValue → List VersionKey → List (VersionKey × RowValue) → List (VersionKey × ℕ) → FactsValue
facts_after_replace f drops rows ends = with_listed (without_all f drops) rows ends

-- whether a row or an end is of one of these versions
abbrev pub meets : List VersionKey → List (VersionKey × RowValue) → List (VersionKey × ℕ) → Bool
meets drops rows ends = list_any (λ r. is_among drops r.0) rows || list_any (λ e. is_among drops e.0) ends
