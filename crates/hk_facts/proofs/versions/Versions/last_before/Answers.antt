use Rattle.hk_facts.proofs.NextBorn.{before_none, before_some}
use Rattle.hk_facts.proofs.versions.Versions.last_before.Goals as goal

pub returns-in-None : goal.returns-in-None
returns-in-None c = rw (← c.self.view_is) (before_none c.self.inside.versions c.args.time c.range-earlier.result (c.range-earlier.ensures.in_range tt) c.in-None.ensures.steps.0)

pub returns-in-Some : goal.returns-in-Some
returns-in-Some c = rw (← c.self.view_is) (before_some c.self.inside.versions c.args.time c.range-earlier.result (c.range-earlier.ensures.in_range tt) _ _ c.in-Some.ensures.steps)
