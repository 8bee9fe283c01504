use Rattle.std.proofs.Common.{◌≡◌, take, true, is_some}
use Rattle.std.specs.List.{list_all}
use Rattle.hk_model.specs.World.Worlds.{at_number}
use Rattle.hk_laws.proofs.lists.all_there.Given as goal

abbrev pub invariant-loop-number : goal.invariant-loop-number
invariant-loop-number l = list_all (λ n. is_some (at_number l.items n)) (take l.number-index l.numbers) ≡ true
