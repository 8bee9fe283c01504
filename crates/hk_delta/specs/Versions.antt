-- Facts that are joined to versions, and what facts tell together.
use Rattle.std.specs.Prelude.{◌≡◌, Bool, false, ◌||◌, ◌==◌, ◌-◌, List, [], ◌∷◌, ℕ, length, Option, Some, None, option_map, Result, Ok, Err}
use Rattle.std.specs.List.{flat_map, slice_get}
use Rattle.std.specs.Ordering.{is_lt}
use Rattle.std.specs.FinMap as finmap
use Rattle.std.specs.FinMap.Entries.{find, put}
use Rattle.hk_types.specs.Values.{RowValue, same_row}
use Rattle.hk_types.specs.declared.version_key.VersionKey.{VersionKey}
use Rattle.hk_types.specs.declared.faults.Refusal.{Refusal}
use Rattle.hk_log.specs.Versions.{VersionValue}
use Rattle.hk_model.specs.History.Rows.{version_key_cmp}
use Rattle.hk_model.specs.Replica.Rules.{conflict}
use Rattle.hk_facts.specs.Facts.{put_result}
use Rattle.hk_facts.specs.declared.fact.Fact.{Fact}
use Rattle.hk_facts.specs.declared.fact.Fact.TheVariants.{Row, End}
use Rattle.hk_fragment.specs.Parts.{Known}
use Rattle.hk_store.specs.Facts.{FactsValue}

-- a fact on a version
abbrev pub FactOn : Type 0
FactOn = VersionKey × Fact

-- the row of a fact, and its end
abbrev pub row_in : FactOn → List (VersionKey × RowValue)
row_in (v, Row r) = (v, r) ∷ []
row_in (v, End d) = []

abbrev pub end_in : FactOn → List (VersionKey × ℕ)
end_in (v, Row r) = []
end_in (v, End d) = (v, d) ∷ []

abbrev pub rows_in : List FactOn → List (VersionKey × RowValue)
rows_in facts = flat_map row_in facts

abbrev pub ends_in : List FactOn → List (VersionKey × ℕ)
ends_in facts = flat_map end_in facts

-- what rows and ends tell of versions
abbrev pub facts_from : List (VersionKey × RowValue) → List (VersionKey × ℕ) → FactsValue
facts_from rows ends = record { rows = finmap.from_entries rows; ends = finmap.from_entries ends }

-- what facts tell together
abbrev pub told : List FactOn → FactsValue
told facts = facts_from (rows_in facts) (ends_in facts)

-- whether two of them give a version different rows or different ends
abbrev pub contradict : List FactOn → Bool
contradict facts = conflict same_row (rows_in facts) || conflict (λ a b. a == b) (ends_in facts)

-- the versions of a rising list with one as it was made, unless that was refused
abbrev pub with_made : VersionKey → List Known → Result VersionValue Refusal → Result (List Known) Refusal
with_made v es (Ok made) = Ok (put version_key_cmp v made es)
with_made v es (Err why) = Err why

-- the versions of a rising list with one fact more, unless it conflicts
abbrev pub joined_to : List Known → FactOn → Result (List Known) Refusal
joined_to es s = with_made s.0 es (put_result s.1 (find version_key_cmp s.0 es))

-- the version that stands last
abbrev pub last_version : List Known → Option VersionKey
last_version es = option_map (λ e. e.0) (slice_get es (length es - 1))

-- a version does not come before another
abbrev pub IsNotBefore : Option VersionKey → VersionKey → Type 0
IsNotBefore None v = Unit {0}
IsNotBefore (Some last) v = is_lt (version_key_cmp v last) ≡ false
