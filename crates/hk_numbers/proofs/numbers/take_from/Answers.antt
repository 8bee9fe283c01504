use Rattle.hk_numbers.proofs.SeenRuns.{taken_seen, next_seen, left_seen}
use Rattle.hk_numbers.proofs.numbers.take_from.Goals as goal

pub returns-clause-taken : goal.returns-clause-taken
returns-clause-taken c = (taken_seen _ _ c.requires.kept.proper c.take.ensures.runs _ _ c.take.ensures.takes)

pub returns-clause-next : goal.returns-clause-next
returns-clause-next c = (next_seen _ _ c.requires.kept.proper c.take.ensures.runs _ _ c.take.ensures.takes)

pub returns-clause-left : goal.returns-clause-left
returns-clause-left c = (left_seen _ _ c.requires.kept.proper c.take.ensures.runs _ _ c.take.ensures.takes)
