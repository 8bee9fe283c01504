use Rattle.std.proofs.Common.{rules}
use Rattle.hk_oplog.proofs.body.Body.is_cut_above.Goals as goal

pub returns-then-number-eq0-clause-whole : goal.returns-then-number-eq0-clause-whole
returns-then-number-eq0-clause-whole c = search rules

pub returns-in-Ok-clause-whole : goal.returns-in-Ok-clause-whole
returns-in-Ok-clause-whole c = search rules

pub returns-in-Ok-clause-delta : goal.returns-in-Ok-clause-delta
returns-in-Ok-clause-delta c = search rules

pub returns-in-Err-clause-whole : goal.returns-in-Err-clause-whole
returns-in-Err-clause-whole c = search rules

pub returns-in-Err-clause-delta : goal.returns-in-Err-clause-delta
returns-in-Err-clause-delta c = search rules
