use Rattle.hk_merge.proofs.RisingHorizon.{ended_may_go}
use Rattle.hk_merge.proofs.plan.may_go.Goals as goal

pub returns-clause-ok : goal.returns-clause-ok
returns-clause-ok c = ended_may_go c.args.whole c.if-whole.false c.args.horizon c.args.own.now c.in_ok-ended.ended.items c.in_ok-ended.ensures.ok c.deref.result.now c.deref.ensures.value c.of.result c.of.ensures.ok
