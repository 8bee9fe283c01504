use Rattle.std.proofs.Common.{rules}
use Rattle.hk_oplog.proofs.body.Body.join_refused.Goals as goal

pub returns-in-Some-past_refusal : goal.returns-in-Some-past_refusal
returns-in-Some-past_refusal c = search rules

pub returns-in-None : goal.returns-in-None
returns-in-None c = search rules
