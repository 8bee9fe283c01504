use Rattle.std.proofs.Common.{rules}
use Rattle.hk_message_head.specs.Messages.{head_at}
use Rattle.hk_message_head.proofs.head.read_head.Goals as goal

pub returns : goal.returns
unfolding head_at
returns c = search rules
