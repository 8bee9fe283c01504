use Rattle.std.proofs.Common.{rules}
use Rattle.hk_primary.proofs.shared.SharedPrimary.items.Goals as goal

pub returns-clause-ok : goal.returns-clause-ok
returns-clause-ok g c = search rules
