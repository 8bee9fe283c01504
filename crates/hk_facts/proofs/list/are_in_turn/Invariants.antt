use Rattle.std.proofs.Common.{take}
use Rattle.hk_facts.proofs.ListedVersions.{InTurnUntil, look}
use Rattle.hk_facts.proofs.list.are_in_turn.Given as goal

abbrev pub invariant-loop-born : goal.invariant-loop-born
invariant-loop-born l = InTurnUntil (λ q. look q (take l.born-index l.list)) l.latest
