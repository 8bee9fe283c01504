use Rattle.std.proofs.Common.{rules}
use Rattle.hk_state.proofs.past.open_before.Goals as goal

pub returns-in-Some : goal.returns-in-Some
returns-in-Some c = search rules
