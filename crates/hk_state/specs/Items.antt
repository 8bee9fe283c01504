-- Items that are added one after the other.
use Rattle.std.specs.Prelude.{◌≡◌, ◌⊎◌, Bool, true, false, ◌||◌, List, [], ◌∷◌, length}
use Rattle.hk_types.specs.Values.{ConfigValue}
use Rattle.hk_types.specs.declared.faults.Refusal.{Refusal}
use Rattle.hk_types.specs.declared.faults.Refusal.TheVariants.{Conflict, Memory}
use Rattle.hk_log.specs.declared.item.Item.{Item}
use Rattle.hk_log.specs.declared.item.Item.TheVariants.{Commit, Closed}
use Rattle.hk_model.specs.History.Facts.{rows_of, ends_of}
use Rattle.hk_model.specs.Replica.Content.{Content}
use Rattle.hk_model.specs.Replica.Maps.{union}
use Rattle.hk_store.specs.Facts.{FactsValue, conflicts_with_entry}

-- the log of a content, and how many streams it has
abbrev pub log_of_content : Content → ConfigValue
log_of_content c = record { log = c.log; streams = length c.streams }

-- the facts with all that items say
abbrev pub facts_with : FactsValue → List Item → FactsValue
facts_with f items = record { rows = union f.rows (rows_of items); ends = union f.ends (ends_of items) }

-- whether an item gives a version another row, or another end
abbrev pub item_conflicts : FactsValue → Item → Bool
item_conflicts f (Commit e) = conflicts_with_entry f e
item_conflicts f (Closed m) = false

-- whether one of the items conflicts with the facts and all items before it
abbrev pub conflict_in_turn : FactsValue → List Item → Bool
conflict_in_turn f [] = false
conflict_in_turn f (item ∷ items) = item_conflicts f item || conflict_in_turn (facts_with f (item ∷ [])) items

-- why something is refused: memory ran out, or there is a conflict
abbrev pub RefusesWhere : Bool → Refusal → Type 0
RefusesWhere conflicts why = (why ≡ Memory) ⊎ ((why ≡ Conflict) × (conflicts ≡ true))
