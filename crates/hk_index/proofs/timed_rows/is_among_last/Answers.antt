use Rattle.std.proofs.Common.{rules}
use Rattle.hk_index.proofs.timed_rows.is_among_last.Goals as goal

pub loop-back-init : goal.loop-back-init
loop-back-init c = search rules

pub loop-back-preserved : goal.loop-back-preserved
loop-back-preserved c = search rules
