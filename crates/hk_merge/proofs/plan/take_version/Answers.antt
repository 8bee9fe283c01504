use Rattle.std.proofs.Common.{rules}
use Rattle.hk_merge.proofs.plan.take_version.Goals as goal

pub returns-in_ok-push_end-clause-rows : goal.returns-in_ok-push_end-clause-rows
returns-in_ok-push_end-clause-rows c = search rules

pub returns-else-not-ended_by-clause-rows : goal.returns-else-not-ended_by-clause-rows
returns-else-not-ended_by-clause-rows c = search rules

pub returns-else-not-ended_by-clause-ends : goal.returns-else-not-ended_by-clause-ends
returns-else-not-ended_by-clause-ends c = search rules
