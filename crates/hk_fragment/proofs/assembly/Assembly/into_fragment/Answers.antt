use Rattle.std.proofs.Common.{rules}
use Rattle.hk_fragment.proofs.assembly.Assembly.into_fragment.Goals as goal

pub returns-clause-head : goal.returns-clause-head
returns-clause-head c = search rules
