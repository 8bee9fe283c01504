-- What items say of versions, fact by fact, and what gathering them answers.
use Rattle.std.specs.Prelude.{◌≡◌, ℕ, Bool, not, ◌&&◌, ◌||◌, ◌==◌, List, [], ◌∷◌, ◌++◌, Result, IfOk, IfErr}
use Rattle.std.specs.List.{flat_map, list_any}
use Rattle.std.specs.Ordering.{eq_by_cmp}
use Rattle.hk_types.specs.OrMemory.{GivesOrMemory}
use Rattle.hk_types.specs.Values.{ConfigValue, RowValue, same_row}
use Rattle.hk_types.specs.declared.version_key.VersionKey.{VersionKey}
use Rattle.hk_types.specs.declared.faults.Refusal.{Refusal}
use Rattle.hk_types.specs.declared.faults.Refusal.TheVariants.{Memory}
use Rattle.hk_log.specs.declared.item.Item.{Item}
use Rattle.hk_log.specs.declared.item.Item.TheVariants.{Commit, Closed}
use Rattle.hk_model.specs.History.Rows.{version_key_cmp}
use Rattle.hk_model.specs.History.Facts.{inserted_version, entry_rows, entry_ends, row_facts, end_facts}
use Rattle.hk_model.specs.Replica.Fragments.{FragmentValue, part}
use Rattle.hk_model.specs.History.Histories.{History, IsHistory, AreItemsOf}
use Rattle.hk_model.specs.Replica.Rules.{conflict, gather_result}
use Rattle.hk_facts.specs.declared.fact.Fact.TheVariants.{Row, End}
use Rattle.hk_delta.specs.Versions.{FactOn}

-- whether two facts give a version different values
abbrev pub facts_conflict : {X : Type 0} → (X → X → Bool) → VersionKey × X → VersionKey × X → Bool
facts_conflict same e f = eq_by_cmp version_key_cmp e.0 f.0 && not (same e.1 f.1)

-- of two rows, or of two ends
abbrev pub rows_conflict : VersionKey × RowValue → VersionKey × RowValue → Bool
rows_conflict = facts_conflict same_row

abbrev pub ends_conflict : VersionKey × ℕ → VersionKey × ℕ → Bool
ends_conflict = facts_conflict (λ a b. a == b)

-- whether two of the items give a version different rows or different ends
abbrev pub have_conflict : List Item → Bool
have_conflict items = conflict same_row (row_facts items) || conflict (λ a b. a == b) (end_facts items)

-- the rows that an item inserts, and the ends that it states
abbrev pub inserted_rows : Item → List (VersionKey × RowValue)
inserted_rows (Commit e) = entry_rows e
inserted_rows (Closed m) = []

abbrev pub stated_ends : Item → List (VersionKey × ℕ)
stated_ends (Commit e) = entry_ends e
stated_ends (Closed m) = []

-- whether one of the items gives the version another row, or another end
abbrev pub conflicts_in_row : List Item → VersionKey × RowValue → Bool
conflicts_in_row items e = list_any (λ item. list_any (rows_conflict e) (inserted_rows item)) items

abbrev pub conflicts_in_end : List Item → VersionKey × ℕ → Bool
conflicts_in_end items e = list_any (λ item. list_any (ends_conflict e) (stated_ends item)) items

-- the row that an entry of a time inserts, and the end that it states of a version
abbrev pub row_fact : ℕ → ℕ × ℕ × RowValue → List FactOn
row_fact time p = ((inserted_version time p).0, Row p.2) ∷ []

abbrev pub end_fact : ℕ → VersionKey → List FactOn
end_fact time v = (v, End time) ∷ []

-- what an item says of versions: its rows, then its ends
abbrev pub item_facts : Item → List FactOn
item_facts (Commit e) = flat_map (row_fact e.time) e.rows ++ flat_map (end_fact e.time) e.ends
item_facts (Closed m) = []

-- what gathering gives, or it was refused so, or memory ran out where there is a fragment
abbrev pub Gathers : ConfigValue → List Item → Result FragmentValue Refusal → Type 0
Gathers config items result = GivesOrMemory (gather_result config items) result

-- items of a history are gathered to the part of base and horizon 0, unless memory ran out
abbrev pub GathersOf : ConfigValue → List Item → Result FragmentValue Refusal → Type 0
GathersOf config items result =
    (history : History) → IsHistory config history → AreItemsOf config history items
    → IfOk result (λ f. f ≡ part config items 0 0) × IfErr result (λ why. why ≡ Memory)
