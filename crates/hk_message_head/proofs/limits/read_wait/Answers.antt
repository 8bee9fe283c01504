use Rattle.std.proofs.Common.{rules}
use Rattle.hk_message_head.specs.Limits.{wait_at}
use Rattle.hk_message_head.proofs.limits.read_wait.Goals as goal

pub returns : goal.returns
unfolding wait_at
returns c = search rules
