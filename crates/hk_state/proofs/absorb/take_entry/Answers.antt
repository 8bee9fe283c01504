use Rattle.std.proofs.Common.{rules}
use Rattle.hk_state.proofs.absorb.take_entry.Goals as goal

pub returns-in-Err-clause-same_facts : goal.returns-in-Err-clause-same_facts
returns-in-Err-clause-same_facts c = search rules
