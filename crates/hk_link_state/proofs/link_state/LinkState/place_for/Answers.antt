use Rattle.std.proofs.Common.{rules}
use Rattle.hk_link_state.proofs.link_state.LinkState.place_for.Goals as goal

pub returns-in-Ok-true-clause-ok : goal.returns-in-Ok-true-clause-ok
returns-in-Ok-true-clause-ok c = search rules
