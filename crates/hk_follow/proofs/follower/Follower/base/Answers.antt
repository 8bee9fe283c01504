use Rattle.hk_oplog.specs.Replay.{replay}
use Rattle.hk_follow.proofs.Bases.{base_is}
use Rattle.hk_follow.proofs.follower.Follower.base.Goals as goal

pub returns-in_default-clause-base : goal.returns-in_default-clause-base
returns-in_default-clause-base g c = base_is (replay c.front.new.self) c.in_ok-front.front _ c.in_ok-front.ensures.front c.base_within.ensures.most c.base_within.ensures.least

pub returns-clause-base : goal.returns-clause-base
returns-clause-base g c = base_is (replay c.front-2.new.self) c.in_ok-front-2.front _ c.in_ok-front-2.ensures.front c.base_within-2.ensures.most c.base_within-2.ensures.least
