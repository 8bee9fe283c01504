use Rattle.std.proofs.Common.{rules}
use Rattle.hk_merge.proofs.past.is_end_late.Goals as goal

pub returns-else-is_none : goal.returns-else-is_none
returns-else-is_none c = search rules
