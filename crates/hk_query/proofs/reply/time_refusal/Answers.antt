use Rattle.std.proofs.Common.{rules}
use Rattle.hk_query.proofs.reply.time_refusal.Goals as goal

pub returns-then-lt-2 : goal.returns-then-lt-2
returns-then-lt-2 c = search rules
