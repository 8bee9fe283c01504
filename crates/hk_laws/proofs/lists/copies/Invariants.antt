use Rattle.std.proofs.Common.{◌≡◌, ◌++◌, drop}
use Rattle.std.specs.List.{filter_map}
use Rattle.hk_model.specs.World.Worlds.{at_number}
use Rattle.hk_laws.proofs.lists.copies.Given as goal

abbrev pub invariant-loop-number : goal.invariant-loop-number
invariant-loop-number l = l.copies.items ++ filter_map (at_number l.items) (drop l.number-index l.numbers) ≡ filter_map (at_number l.items) l.numbers
