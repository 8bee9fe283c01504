use Rattle.hk_facts.proofs.NextBorn.{after_none, after_some}
use Rattle.hk_facts.proofs.versions.Versions.after.Goals as goal

pub returns-in-None : goal.returns-in-None
returns-in-None c = rw (← c.self.view_is) (after_none c.self.inside.versions c.args.time c.range-later.result (c.range-later.ensures.in_range tt) c.in-None.ensures.steps.0)

pub returns-in-Some : goal.returns-in-Some
returns-in-Some c = rw (← c.self.view_is) (after_some c.self.inside.versions c.args.time c.range-later.result (c.range-later.ensures.in_range tt) _ _ c.in-Some.ensures.steps)
