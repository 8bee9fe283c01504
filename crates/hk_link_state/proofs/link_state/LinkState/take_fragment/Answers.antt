use Rattle.std.proofs.Common.{rules}
use Rattle.hk_link_state.proofs.link_state.LinkState.take_fragment.Goals as goal

pub returns-clause-fault : goal.returns-clause-fault
returns-clause-fault c = search rules
