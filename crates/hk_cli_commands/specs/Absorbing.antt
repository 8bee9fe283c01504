-- What a replica's state does with an item.
use Rattle.std.specs.Prelude.{◌≡◌, List, [], ◌∷◌, Ok}
use Rattle.hk_log.specs.declared.item.Item.{Item}
use Rattle.hk_model.specs.Replica.Content.{Content}
use Rattle.hk_model.specs.declared.took.Took.{Took}
use Rattle.hk_model.specs.Replica.Rules.{take_result}

-- the state that has taken the item, or had it before
abbrev pub Takes : Content → Item → Content → Type 0
Takes old item new = (took : Took) × (take_result old item ≡ Ok (took, new))

-- the state that has taken the items, one after the other
abbrev pub TakesAll : Content → List Item → Content → Type 0
TakesAll old [] new = new ≡ old
TakesAll old (item ∷ items) new = (next : Content) × Takes old item next × TakesAll next items new
