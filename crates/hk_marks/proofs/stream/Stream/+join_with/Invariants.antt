use Rattle.std.proofs.Common.{length}
use Rattle.hk_marks.proofs.stream.Stream.+join_with.Given as goal

abbrev pub decreases-join_with : goal.decreases-join_with
decreases-join_with l = length l.later.now
