-- A state that took items, and then one more.
use Rattle.std.proofs.Common.{◌≡◌, refl, sym, subst, List, [], ◌∷◌, ◌++◌}
use Rattle.hk_log.specs.declared.item.Item.{Item}
use Rattle.hk_model.specs.Replica.Content.{Content}
use Rattle.hk_cli_commands.specs.Absorbing.{Takes, TakesAll}

pub taken_last : (before : List Item) (item : Item) (start old new : Content) → TakesAll start before old → Takes old item new → TakesAll start (before ++ item ∷ []) new
taken_last [] item start old new same takes = (new, subst (λ (c : Content). Takes c item new) same takes, refl)
taken_last (first ∷ others) item start old new taken takes = (taken.0, taken.1, taken_last others item taken.0 old new taken.2 takes)
