use Rattle.std.proofs.Common.{rules}
use Rattle.hk_link_state.proofs.giving.give.Goals as goal

pub returns-in-None-clause-told : goal.returns-in-None-clause-told
returns-in-None-clause-told g c = search rules
