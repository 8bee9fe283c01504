use Rattle.hk_laws.proofs.TestedWrites.{Started}
use Rattle.hk_laws.proofs.building.misbuilt.Given as goal

abbrev pub invariant-loop-i : goal.invariant-loop-i
invariant-loop-i l = Started l.writes l.i
