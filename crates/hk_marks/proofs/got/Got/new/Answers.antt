use Rattle.std.proofs.Common.{arith, subst, sym}
use Rattle.hk_marks.specs.Seen.{AreStreams}
use Rattle.hk_marks.proofs.GotRules.{AreStreams-unknown}
use Rattle.hk_marks.proofs.got.Got.new.Goals as goal

pub invariant_of-result : goal.invariant_of-result
invariant_of-result c = subst AreStreams (sym c.streams.invariant) (AreStreams-unknown _ (omega arith) (omega arith))
