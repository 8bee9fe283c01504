-- What a guarded node takes of one history.
use Rattle.std.specs.Prelude.{◌≡◌, ℕ, false, List, [], ◌∷◌, Ok}
use Rattle.hk_types.specs.Values.{ConfigValue}
use Rattle.hk_log.specs.declared.item.Item.{Item}
use Rattle.hk_model.specs.Replica.Content.{Content}
use Rattle.hk_model.specs.Replica.Replicas.{Represents}
use Rattle.hk_model.specs.History.Histories.{History, IsHistory, AreItemsOf}
use Rattle.hk_delta.specs.Agreeing.{absorb_all}
use Rattle.hk_oplog.specs.NodeContent.{NodeContent}
use Rattle.hk_oplog.specs.Replay.{full_refusal}
use Rattle.hk_oplog.specs.Guarded.{take_refusal}

-- items and, before them, those that came later, the last one first
abbrev pub with_newest : List Item → List Item → List Item
with_newest own [] = own
with_newest own (item ∷ items) = with_newest (item ∷ own) items

-- items of the history that a node's content represents are taken, where there is room for one operation more, and the content
-- represents them too
abbrev pub TakeLaw : Type 0
TakeLaw =
    (config : ConfigValue) (history : History) (own items : List Item) (horizon : ℕ) (c : NodeContent) → IsHistory config history → Represents config history own horizon c.content
    → c.damaged ≡ false → AreItemsOf config history items
    → (take_refusal c items ≡ full_refusal c) × ((d : Content) × (absorb_all c.content items ≡ Ok d) × Represents config history (with_newest own items) horizon d)
