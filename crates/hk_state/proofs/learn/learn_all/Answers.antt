use Rattle.std.proofs.Common.{rules}
use Rattle.hk_state.proofs.learn.learn_all.Goals as goal

pub returns-in-Err-clause-same_facts : goal.returns-in-Err-clause-same_facts
returns-in-Err-clause-same_facts c = search rules
