use Rattle.std.proofs.Common.{rules}
use Rattle.hk_oplog.proofs.body.Body.uncovering_refusal.Goals as goal

pub returns-then-prune_touches_past : goal.returns-then-prune_touches_past
returns-then-prune_touches_past c = search rules

pub returns : goal.returns
returns c = search rules
