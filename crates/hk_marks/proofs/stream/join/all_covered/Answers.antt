use Rattle.hk_marks.proofs.RoomForMore.{none_beyond}
use Rattle.hk_marks.proofs.stream.join.all_covered.Goals as goal

pub returns-in-Some-clause-none : goal.returns-in-Some-clause-none
returns-in-Some-clause-none c = λ covered. none_beyond _ _ _ covered c.in-Some.ensures.all_up_to
