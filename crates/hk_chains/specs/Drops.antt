-- Facts of which versions are dropped.
use Rattle.std.specs.Prelude.{◌≡◌, ℕ, Bool, true, not, List}
use Rattle.std.specs.List.{list_any}
use Rattle.std.specs.Ordering.{eq_by_cmp}
use Rattle.std.specs.FinMap as finmap
use Rattle.hk_types.specs.declared.version_key.VersionKey.{VersionKey}
use Rattle.hk_model.specs.History.Rows.{RowKey, row_key_of, version_key_cmp}
use Rattle.hk_model.specs.Replica.Content.{ended_by, without_ended}
use Rattle.hk_index.specs.Timed.{is_among as is_among_rows}
use Rattle.hk_chains.specs.Facts.{FactsValue}

-- whether a version is among these
abbrev pub is_among : List VersionKey → VersionKey → Bool
is_among versions v = list_any (eq_by_cmp version_key_cmp v) versions

-- the facts of the versions that are not among these
abbrev pub without_all : FactsValue → List VersionKey → FactsValue
without_all f versions = record { rows = finmap.retain_keys f.rows (λ v. not (is_among versions v)); ends = finmap.retain_keys f.ends (λ v. not (is_among versions v)) }

-- the facts of the versions with no end at most h
abbrev pub pruned_facts : FactsValue → ℕ → FactsValue
pruned_facts f h = record { rows = without_ended f.ends h f.rows; ends = without_ended f.ends h f.ends }

-- each version that ended by a time is of one of these rows
abbrev pub EndedAmong : FactsValue → ℕ → List RowKey → Type 0
EndedAmong f until rows = (q : VersionKey) → ended_by f.ends until q ≡ true → is_among_rows rows (row_key_of q) ≡ true
