-- The facts of a replica: its rows and its ends, by version key.
use Rattle.std.specs.Prelude.{◌≡◌, ℕ, Bool, true, ◌||◌, ◌==◌, ◌<◌, List, [], ◌∷◌, Option, Some, None, Result, Ok, Err, if◌then◌else◌, refl}
use Rattle.std.specs.Option.{option_and_then}
use Rattle.std.specs.List.{flat_map}
use Rattle.std.specs.Coded.{Coded, code_by, coded×, coded_ℕ}
use Rattle.std.specs.FinMap as finmap
use Rattle.hk_types.specs.Values.{RowValue, same_row}
use Rattle.hk_types.specs.declared.version_key.VersionKey.{VersionKey}
use Rattle.hk_types.specs.declared.faults.Refusal.{Refusal}
use Rattle.hk_types.specs.declared.faults.Refusal.TheVariants.{Conflict}
use Rattle.hk_log.specs.Items.{EntryValue}
use Rattle.hk_log.specs.Versions.{VersionValue, is_known}
use Rattle.hk_log.specs.declared.item.Item.TheVariants.{Commit}
use Rattle.hk_model.specs.History.Rows.{RowKey, row_key_cmp, row_key_of, version_key_cmp, version_of}
use Rattle.hk_model.specs.Replica.Maps.{values_conflict, union, maps_conflict}
use Rattle.hk_model.specs.History.Facts.{rows_of, ends_of}
use Rattle.hk_model.specs.Replica.Codes.{version_key_code, row_code}
use Rattle.hk_facts.specs.declared.fact.Fact.{Fact}
use Rattle.hk_facts.specs.declared.fact.Fact.TheVariants.{Row, End}
use Rattle.hk_facts.specs.declared.fact.Part.{Part}
use Rattle.hk_facts.specs.declared.fact.Part.TheVariants.{Row as RowPart, End as EndPart, Whole}
use Rattle.hk_facts.specs.Chains.{ChainValue}
use Rattle.hk_facts.specs.Facts.{if_known}

-- the value of a `Facts`
pub record FactsValue : Type 0 where
  pub rows : finmap.FinMap version_key_cmp RowValue
  pub ends : finmap.FinMap version_key_cmp ℕ

abbrev pub facts_code : Coded FactsValue
facts_code =
    code_by (finmap.FinMap version_key_cmp RowValue × finmap.FinMap version_key_cmp ℕ)
    (coded× (finmap.code version_key_code row_code) (finmap.code version_key_code coded_ℕ))
    (λ f. (f.rows, f.ends)) (λ p. record { rows = p.0; ends = p.1 }) (λ _. refl)

abbrev pub no_facts : FactsValue
no_facts = record { rows = finmap.empty; ends = finmap.empty }

-- ---- as they are stored: for each row the chain of its versions

abbrev pub ChainsValue : Type 0
ChainsValue = finmap.FinMap row_key_cmp ChainValue

-- what is known of a version
abbrev pub stored_version : ChainsValue → VersionKey → Option VersionValue
stored_version chains v = option_and_then (λ c. finmap.get c v.born) (finmap.get chains (row_key_of v))

-- an entry, where there is a value
abbrev pub entry_if : {Y : Type 0} → VersionKey → Option Y → List (VersionKey × Y)
entry_if v None = []
entry_if v (Some y) = (v, y) ∷ []

-- what is read of each stored version
abbrev pub read_all : {Y : Type 0} → (VersionValue → Option Y) → ChainsValue → List (VersionKey × Y)
read_all read chains =
    flat_map (λ k. flat_map (λ v. entry_if (version_of k.0 v.0) (read v.1)) (finmap.entries k.1)) (finmap.entries chains)

-- the rows and the ends of all stored versions
abbrev pub facts_of : ChainsValue → FactsValue
facts_of chains = record { rows = finmap.from_entries (read_all (λ v. v.row) chains); ends = finmap.from_entries (read_all (λ v. v.died) chains) }

-- of each stored version something is known
abbrev pub AllKnown : ChainsValue → Type 0
AllKnown chains = (q : VersionKey) (v : VersionValue) → stored_version chains q ≡ Some v → is_known v ≡ true

-- no chain is empty, and of each stored version something is known
pub record AreStored (chains : ChainsValue) : Type 0 where
  pub filled : (k : RowKey) (c : ChainValue) → finmap.get chains k ≡ Some c → 0 < finmap.len c
  pub known : AllKnown chains

-- a row's chain that is not empty leaves the chains as they were
abbrev pub KeepsFilled : ChainsValue → RowKey → ChainsValue → Type 0
KeepsFilled old row new = (c : ChainValue) → finmap.get old row ≡ Some c → 0 < finmap.len c → new ≡ old

-- an empty one goes
abbrev pub LosesEmpty : ChainsValue → RowKey → ChainsValue → Type 0
LosesEmpty old row new = finmap.get old row ≡ Some finmap.empty → new ≡ finmap.remove old row

-- ---- what calls do

-- what is known of a version
abbrev pub known_at : FactsValue → VersionKey → Option VersionValue
known_at f v = if_known (record { row = finmap.get f.rows v; died = finmap.get f.ends v })

-- the chain has what is known of each version of a key of a table
abbrev pub IsChainAt : FactsValue → ℕ → ℕ → ChainValue → Type 0
IsChainAt f table key chain = (born : ℕ) → finmap.get chain born ≡ known_at f (record { table = table; key = key; born = born })

-- nothing is known of a key of a table
abbrev pub IsUnknown : FactsValue → ℕ → ℕ → Type 0
IsUnknown f table key = (born : ℕ) → known_at f (record { table = table; key = key; born = born }) ≡ None

-- the map with this at the key, unless something stands there
abbrev pub with_added : {X : Type 0} → finmap.FinMap version_key_cmp X → VersionKey → X → finmap.FinMap version_key_cmp X
with_added m v x = if finmap.contains_key m v then m else finmap.insert m v x

-- whether a version has another row, or another end, than the fact says
abbrev pub conflicts_at : FactsValue → VersionKey → Fact → Bool
conflicts_at f v (Row row) = values_conflict same_row (finmap.get f.rows v) (Some row)
conflicts_at f v (End died) = values_conflict (λ a b. a == b) (finmap.get f.ends v) (Some died)

-- the facts with one more
abbrev pub with_fact_at : FactsValue → VersionKey → Fact → FactsValue
with_fact_at f v (Row row) = record { rows = with_added f.rows v row; ends = f.ends }
with_fact_at f v (End died) = record { rows = f.rows; ends = with_added f.ends v died }

-- the facts with one more, unless it conflicts
abbrev pub facts_put : FactsValue → VersionKey → Fact → Result FactsValue Refusal
facts_put f v fact = if conflicts_at f v fact then Err Conflict else Ok (with_fact_at f v fact)

-- the facts without a part of a version
abbrev pub facts_without : FactsValue → VersionKey → Part → FactsValue
facts_without f v RowPart = record { rows = finmap.remove f.rows v; ends = f.ends }
facts_without f v EndPart = record { rows = f.rows; ends = finmap.remove f.ends v }
facts_without f v Whole = record { rows = finmap.remove f.rows v; ends = finmap.remove f.ends v }

-- the facts with all that an entry says
abbrev pub with_entry : FactsValue → EntryValue → FactsValue
with_entry f e = record { rows = union f.rows (rows_of (Commit e ∷ [])); ends = union f.ends (ends_of (Commit e ∷ [])) }

-- whether an entry gives a version another row, or another end
abbrev pub conflicts_with_entry : FactsValue → EntryValue → Bool
conflicts_with_entry f e = maps_conflict same_row f.rows (rows_of (Commit e ∷ [])) || maps_conflict (λ a b. a == b) f.ends (ends_of (Commit e ∷ []))
