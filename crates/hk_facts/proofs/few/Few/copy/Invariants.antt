use Rattle.std.proofs.Common.{◌≡◌, take}
use Rattle.hk_facts.proofs.few.Few.copy.Given as goal

abbrev pub invariant-loop-born : goal.invariant-loop-born
invariant-loop-born l = l.versions.items ≡ take l.born-index l.born-items
