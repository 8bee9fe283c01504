use Rattle.hk_marks.proofs.StoredStreams.{taken_seen-grown, extra-grown}
use Rattle.hk_marks.proofs.stream.grow.Goals as goal

pub returns-clause-same : goal.returns-clause-same
returns-clause-same c = taken_seen-grown _ _ _ _ c.requires.least c.take_from.ensures.least c.take_from.ensures.taken c.take_from.ensures.left

pub returns-clause-extras : goal.returns-clause-extras
returns-clause-extras c = extra-grown _ _ _ c.take_from.ensures.next c.requires.most c.take_from.ensures.left
