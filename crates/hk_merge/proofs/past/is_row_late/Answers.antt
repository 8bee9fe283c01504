use Rattle.std.proofs.Common.{rules}
use Rattle.hk_merge.proofs.past.is_row_late.Goals as goal

pub returns-else-lt : goal.returns-else-lt
returns-else-lt c = search rules

pub returns-else-is_none : goal.returns-else-is_none
returns-else-is_none c = search rules
