use Rattle.std.proofs.Common.{take}
use Rattle.hk_facts.specs.Turns.{AreBounded}
use Rattle.hk_facts.proofs.ListedVersions.{look}
use Rattle.hk_facts.proofs.list.bounds_of.Given as goal

abbrev pub invariant-loop-born : goal.invariant-loop-born
invariant-loop-born l = AreBounded (λ q. look q (take l.born-index l.list)) l.bounds
