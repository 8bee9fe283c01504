use Rattle.std.proofs.Common.{rules}
use Rattle.hk_primary.proofs.primary.Primary.retire.Goals as goal

pub returns-clause-told : goal.returns-clause-told
returns-clause-told c = search rules
