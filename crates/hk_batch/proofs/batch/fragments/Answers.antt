use Rattle.std.proofs.Common.{Err}
use Rattle.hk_types.specs.declared.faults.Refusal.TheVariants.{Memory}
use Rattle.hk_batch.proofs.batch.fragments.Goals as goal

pub returns-clause-passed : goal.returns-clause-passed
returns-clause-passed g c n below = (c.in_ok-parts.ensures.each n (Err Memory) below).1.met.1
