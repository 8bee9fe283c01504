use Rattle.hk_follow.proofs.FollowedLists.{follow_law_proof}
use Rattle.hk_follow.proofs.laws.follow_law.Goals as goal

pub returns : goal.returns
returns c = follow_law_proof
