use Rattle.std.proofs.Common.{◌≡◌, take}
use Rattle.std.specs.List.{flat_map}
use Rattle.hk_delta.specs.Gathers.{item_facts}
use Rattle.hk_delta.proofs.gathering.facts_of.Given as goal

abbrev pub invariant-loop-item : goal.invariant-loop-item
invariant-loop-item l = l.facts.items ≡ flat_map item_facts (take l.item-index l.items)
