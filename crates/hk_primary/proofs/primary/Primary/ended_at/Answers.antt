use Rattle.std.proofs.Common.{rules}
use Rattle.hk_primary.proofs.primary.Primary.ended_at.Goals as goal

pub returns : goal.returns
returns c = search rules
