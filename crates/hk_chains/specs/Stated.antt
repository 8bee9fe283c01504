-- What is looked for by time.
use Rattle.std.specs.Prelude.{◌≡◌, ℕ, Bool, true, false, ◌&&◌, ◌||◌, is_some, List, filter, Option, Some, None}
use Rattle.hk_types.specs.Values.{RowValue}
use Rattle.hk_types.specs.declared.version_key.VersionKey.{VersionKey}
use Rattle.hk_log.specs.Versions.{VersionValue}
use Rattle.hk_model.specs.History.Rows.{RowKey, row_key_of}
use Rattle.hk_index.specs.Timed.{timed_cmp, has_row, is_among as is_among_rows, is_in_span}
use Rattle.std.specs.FinMap as finmap
use Rattle.std.specs.FinSet as set
use Rattle.hk_facts.specs.Chains.{ChainValue}
use Rattle.hk_chains.specs.declared.stated.Sought.{Sought}
use Rattle.hk_chains.specs.Facts.{FactsValue, known_at}
use Rattle.hk_chains.specs.Indexed.{passes_at}
use Rattle.hk_chains.specs.Versions.{versions_of_row}

-- whether a version, born then, has an end in the span, or a birth, where births are looked for
abbrev pub is_sought : Sought → ℕ → VersionValue → Bool
is_sought sought born v = (sought.births && (is_some v.row && is_in_span sought.span born)) || passes_at (is_in_span sought.span) v.died

-- whether anything is known of a version, and it is looked for
abbrev pub sought_known : Sought → ℕ → Option VersionValue → Bool
sought_known sought born None = false
sought_known sought born (Some v) = is_sought sought born v

abbrev pub sought_at : FactsValue → Sought → VersionKey → Bool
sought_at f sought q = sought_known sought q.born (known_at f q)

-- the same, where its row is one of these
abbrev pub sought_among : FactsValue → Sought → List RowKey → VersionKey → Bool
sought_among f sought rows q = is_among_rows rows (row_key_of q) && sought_at f sought q

-- the versions of a row that are looked for
abbrev pub sought_in : RowKey → Sought → List (ℕ × VersionValue) → List (VersionKey × VersionValue)
sought_in row sought es = filter (λ e. is_sought sought e.0.born e.1) (versions_of_row row es)

-- the same, of a row whose chain this is
abbrev pub found_in : RowKey → Sought → ChainValue → List (VersionKey × VersionValue)
found_in row sought chain = sought_in row sought (finmap.entries chain)

-- the row of a version is there with the times at which it was born and ended
pub record IsStated (v : VersionKey) (known : VersionValue) (index : set.FinSet timed_cmp) : Type 0 where
  pub born : (row : RowValue) → known.row ≡ Some row → has_row index v.born (row_key_of v) ≡ true
  pub dead : (died : ℕ) → known.died ≡ Some died → has_row index died (row_key_of v) ≡ true
