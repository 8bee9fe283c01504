-- Frames that are written anew in version 2.
use Rattle.std.specs.Prelude.{◌≡◌, ℕ, ◌⊎◌, List, [], ◌++◌, length, take, Result, Ok, Err}
use Rattle.std.specs.List.{flat_map}
use Rattle.hk_log.specs.declared.item.Item.{Item}
use Rattle.hk_types.specs.declared.faults.Refusal.{Refusal}
use Rattle.hk_types.specs.declared.faults.Refusal.TheVariants as refusals
use Rattle.hk_codec.specs.Frames.{encoding_of, Reads, IsRefused}

-- the items of the text were added in version 2, or the text is refused and what was there is still the front
abbrev pub HasRewritten : List ℕ → List ℕ → List ℕ → Result (Unit {0}) Refusal → Type 0
HasRewritten text before after (Ok done) = (items : List Item) × Reads text items (Ok []) × (after ≡ before ++ flat_map (encoding_of 2) items)
HasRewritten text before after (Err r) = (take (length before) after ≡ before) × ((r ≡ refusals.Memory) ⊎ IsRefused text r)
