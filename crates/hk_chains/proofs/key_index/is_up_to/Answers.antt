use Rattle.std.proofs.Common.{rules}
use Rattle.hk_chains.proofs.key_index.is_up_to.Goals as goal

pub returns-then-eq : goal.returns-then-eq
returns-then-eq c = search rules
