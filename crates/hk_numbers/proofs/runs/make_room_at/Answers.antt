use Rattle.std.proofs.Common.{rules}
use Rattle.hk_numbers.proofs.runs.make_room_at.Goals as goal

pub returns-clause-same : goal.returns-clause-same
returns-clause-same c = search rules

pub returns-clause-runs : goal.returns-clause-runs
returns-clause-runs c = search rules

pub returns-clause-apart : goal.returns-clause-apart
returns-clause-apart c = search rules
