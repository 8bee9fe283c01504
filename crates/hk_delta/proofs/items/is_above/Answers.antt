use Rattle.std.proofs.Common.{rules}
use Rattle.hk_delta.proofs.items.is_above.Goals as goal

pub returns-in-Commit-clause-above : goal.returns-in-Commit-clause-above
returns-in-Commit-clause-above c = search rules
