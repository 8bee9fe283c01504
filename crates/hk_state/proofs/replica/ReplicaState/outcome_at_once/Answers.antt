use Rattle.std.proofs.Common.{rules}
use Rattle.hk_state.proofs.replica.ReplicaState.outcome_at_once.Goals as goal

pub returns-then-is_late-clause-some : goal.returns-then-is_late-clause-some
returns-then-is_late-clause-some c = search rules

pub returns-then-is_late-clause-lawful : goal.returns-then-is_late-clause-lawful
returns-then-is_late-clause-lawful c = search rules

pub returns-clause-new : goal.returns-clause-new
returns-clause-new c = search rules

pub returns-clause-lawful : goal.returns-clause-lawful
returns-clause-lawful c = search rules
