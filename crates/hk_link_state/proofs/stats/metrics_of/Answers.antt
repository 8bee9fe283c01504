use Rattle.std.proofs.Common.{rules}
use Rattle.hk_link_state.proofs.stats.metrics_of.Goals as goal

pub returns : goal.returns
returns c = search rules
