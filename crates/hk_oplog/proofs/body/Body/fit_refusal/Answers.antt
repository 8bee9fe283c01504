use Rattle.std.proofs.Common.{rules}
use Rattle.hk_oplog.proofs.body.Body.fit_refusal.Goals as goal

pub returns : goal.returns
returns c = search rules
