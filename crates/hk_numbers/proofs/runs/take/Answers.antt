use Rattle.std.proofs.Common.{rules}
use Rattle.hk_numbers.proofs.runs.take.Goals as goal

pub loop-first-preserved-then-end-next : goal.loop-first-preserved-then-end-next
loop-first-preserved-then-end-next c = search rules
