use Rattle.hk_follow.proofs.Joins.{waits}
use Rattle.hk_follow.proofs.follower.Follower.join.Goals as goal

pub returns-in-Ok-clause-refused : goal.returns-in-Ok-clause-refused
returns-in-Ok-clause-refused g c = waits g.J.NodeName.kind _ c.in-Ok.receipt c.learn.result c.in-Ok.ensures.change c.learn.ensures.waits
