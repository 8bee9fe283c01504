use Rattle.hk_marks.proofs.RoomForMore.{more_of}
use Rattle.hk_marks.proofs.stream.join.remove_counts.Goals as goal

pub loop-count-preserved : goal.loop-count-preserved
loop-count-preserved c = λ q. more_of _ _ q _ _ _ _ c.loop-count-test.true (c.remove.ensures.updates.0 q) (c.loop-count.invariant q)
