-- What the indexes of facts hold.
use Rattle.std.specs.Prelude.{◌≡◌, ◌≤◌, ℕ, Bool, true, false, ◌==◌, ◌||◌, ◌&&◌, ◌++◌, is_some, if◌then◌else◌, List, Option, Some, None, ◌⊎◌, Err}
use Rattle.std.specs.List.{flat_map, list_any}
use Rattle.std.specs.Ordering.{eq_by_cmp}
use Rattle.std.specs.Option.{option_map}
use Rattle.std.specs.FinMap as finmap
use Rattle.std.specs.FinSet as set
use Rattle.hk_types.specs.Values.{RowValue}
use Rattle.hk_types.specs.declared.faults.Refusal.{Refusal}
use Rattle.hk_types.specs.declared.faults.Refusal.TheVariants.{Memory}
use Rattle.hk_types.specs.declared.version_key.VersionKey.{VersionKey}
use Rattle.hk_model.specs.History.Rows.{row_key_of, version_key_cmp}
use Rattle.hk_model.specs.History.Histories.{Tables}
use Rattle.hk_index.specs.Tags.{TagKeysValue, is_listed, is_one_of}
use Rattle.hk_index.specs.Timed.{timed_cmp, has_row}
use Rattle.hk_index.specs.declared.timed_row.TimedRow.{TimedRow}
use Rattle.hk_facts.specs.declared.fact.Fact.{Fact}
use Rattle.hk_facts.specs.declared.fact.Fact.TheVariants.{Row, End}
use Rattle.hk_chains.specs.Facts.{FactsValue, known_at, facts_put}
use Rattle.hk_chains.specs.Reads.{keyed_if}

-- whether there is a row, and it has this tag
abbrev pub is_tagged : ℕ → Option RowValue → Bool
is_tagged tag None = false
is_tagged tag (Some row) = row.tag == tag

-- whether a row of a version is known, with this tag
abbrev pub has_tag : FactsValue → ℕ → VersionKey → Bool
has_tag f tag v = is_tagged tag (finmap.get f.rows v)

-- the rows of all versions
abbrev pub RowsValue : Type 0
RowsValue = finmap.FinMap version_key_cmp RowValue

-- the index by tag has each version whose row is known, with the tag of that row, and no other
abbrev pub AreTagged : FactsValue → RowsValue → Type 0
AreTagged f index = (tag : ℕ) (v : VersionKey) → is_tagged tag (finmap.get index v) ≡ has_tag f tag v

-- the versions of a table whose row has a tag
abbrev pub with_tag : RowsValue → ℕ → ℕ → set.FinSet version_key_cmp
with_tag index table tag = set.from_list (finmap.keys (finmap.retain_keys index (λ v. is_tagged tag (finmap.get index v) && (v.table == table))))

-- each key of which a row is known is listed by the tag of that row
abbrev pub AllListed : FactsValue → TagKeysValue → Type 0
AllListed f keys = (v : VersionKey) (row : RowValue) → finmap.get f.rows v ≡ Some row → is_listed keys v.table row.tag v.key ≡ true

-- the row, where it has the tag
abbrev pub if_tagged : ℕ → Option RowValue → Option RowValue
if_tagged tag row = if is_tagged tag row then row else None

-- the row of a key of a table, where it has the tag
abbrev pub tagged_row : Tables → ℕ → ℕ → ℕ → Option RowValue
tagged_row tables table tag key = if_tagged tag (finmap.get tables (record { table = table; key = key }))

-- the rows of some keys of a table that have a tag, with their keys
abbrev pub rows_of_keys : Tables → ℕ → ℕ → List ℕ → List (ℕ × RowValue)
rows_of_keys tables table tag keys = flat_map (λ key. keyed_if key (tagged_row tables table tag key)) keys

-- whether a row or an end of a version is known
abbrev pub has_fact : FactsValue → VersionKey → Bool
has_fact f v = is_some (finmap.get f.rows v) || is_some (finmap.get f.ends v)

-- the set has each version of which a row or an end is known, and no other
abbrev pub AreKeyed : FactsValue → set.FinSet version_key_cmp → Type 0
AreKeyed f keys = (v : VersionKey) → set.contains keys v ≡ has_fact f v

-- the versions of which a row or an end is known
abbrev pub keys_of : FactsValue → set.FinSet version_key_cmp
keys_of f = set.from_list (finmap.keys f.rows ++ finmap.keys f.ends)

-- the time at which a version was born, where its row is known
abbrev pub born_at : FactsValue → VersionKey → Option ℕ
born_at f v = option_map (λ row. v.born) (finmap.get f.rows v)

-- the time of its end, where that is known
abbrev pub died_at : FactsValue → VersionKey → Option ℕ
died_at f v = finmap.get f.ends v

-- the row of a version with the time of its birth
abbrev pub birth_of : VersionKey → TimedRow
birth_of v = record { time = v.born; row = row_key_of v }

-- the row of each version is there with the time of its birth, where its row is known, and with that of its end
pub record AreStated (f : FactsValue) (index : set.FinSet timed_cmp) : Type 0 where
  pub born : (v : VersionKey) (row : RowValue) → finmap.get f.rows v ≡ Some row → has_row index v.born (row_key_of v) ≡ true
  pub dead : (v : VersionKey) (died : ℕ) → finmap.get f.ends v ≡ Some died → has_row index died (row_key_of v) ≡ true

-- the keys are listed by tag and by time, and no end is before a first time
pub record AreIndexed (f : FactsValue) (keys : TagKeysValue) (index : set.FinSet timed_cmp) (first : ℕ) : Type 0 where
  pub tagged : AllListed f keys
  pub stated : AreStated f index
  pub later : (v : VersionKey) (died : ℕ) → finmap.get f.ends v ≡ Some died → first ≤ died

-- whether there is a time, and it passes a test
abbrev pub passes_at : (ℕ → Bool) → Option ℕ → Bool
passes_at test None = false
passes_at test (Some t) = test t

-- whether a version has a row that was born at a time that passes a test, or an end at such a time
abbrev pub is_stated : FactsValue → (ℕ → Bool) → VersionKey → Bool
is_stated f test v = passes_at test (born_at f v) || passes_at test (died_at f v)

-- nothing like this fact is known of the version
abbrev pub IsNew : FactsValue → VersionKey → Fact → Type 0
IsNew f v (Row row) = finmap.get f.rows v ≡ None
IsNew f v (End died) = finmap.get f.ends v ≡ None

-- a fact is refused: by what is known, or, where nothing like it is known of the version, for memory
abbrev pub RefusesNew : FactsValue → VersionKey → Fact → Refusal → Type 0
RefusesNew f v fact why = (facts_put f v fact ≡ Err why) ⊎ ((why ≡ Memory) × IsNew f v fact)

-- a fact is refused: by what is known, or, where nothing is known of the version, for memory
abbrev pub RefusesUnknown : FactsValue → VersionKey → Fact → Refusal → Type 0
RefusesUnknown f v fact why = (facts_put f v fact ≡ Err why) ⊎ ((why ≡ Memory) × (known_at f v ≡ None))

-- the list has the versions of some keys of a table whose row has a tag
abbrev pub AreTaggedOf : FactsValue → ℕ → ℕ → List ℕ → List VersionKey → Type 0
AreTaggedOf f table tag keys found = (v : VersionKey) → list_any (eq_by_cmp version_key_cmp v) found ≡ (is_one_of keys v.key && (has_tag f tag v && v.table == table))
