use Rattle.std.proofs.Common.{rules}
use Rattle.hk_primary.proofs.primary.Primary.mark_of.Goals as goal

pub unreachable-requires : goal.unreachable-requires
unreachable-requires c = search rules

pub returns : goal.returns
returns c = search rules
