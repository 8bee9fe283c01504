-- The pieces of a list of items, each gathered by a worker.
use Rattle.std.specs.Prelude.{ℕ, ◌<◌, ◌*◌, List, take, drop, slice_index_or, Result, IfOk}
use Rattle.hk_types.specs.Values.{ConfigValue}
use Rattle.hk_types.specs.declared.faults.Refusal.{Refusal}
use Rattle.hk_log.specs.declared.item.Item.{Item}
use Rattle.hk_model.specs.Replica.Fragments.{FragmentValue}
use Rattle.hk_delta.specs.Unions.{IsGathered}

-- piece n of a list, from 0, where each but the last ones has this size
abbrev pub piece_of : List Item → ℕ → ℕ → List Item
piece_of items size n = take size (drop (n * size) items)

-- each of the first pieces was gathered, or refused
abbrev pub AreGathered : ConfigValue → List Item → ℕ → ℕ → List (Result FragmentValue Refusal) → Type 0
AreGathered config items size pieces results =
    (n : ℕ) (d : Result FragmentValue Refusal) → n < pieces → IfOk (slice_index_or results n d) (IsGathered config (piece_of items size n))
