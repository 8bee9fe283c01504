use Rattle.std.proofs.Common.{nat_cmp}
use Rattle.std.specs.Map.Iter.{deref_pair}
use Rattle.hk_facts.proofs.CopiedTrees.{Filled}
use Rattle.hk_facts.proofs.versions.Versions.copy.Given as goal

abbrev pub invariant-loop-born : goal.invariant-loop-born
invariant-loop-born l = Filled nat_cmp deref_pair l.versions l.yielded
