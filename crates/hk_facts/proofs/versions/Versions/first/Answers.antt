use Rattle.hk_facts.proofs.NextBorn.{first_none, first_some}
use Rattle.hk_facts.proofs.versions.Versions.first.Goals as goal

pub returns-in-None : goal.returns-in-None
returns-in-None c = rw (← c.self.view_is) (first_none c.self.inside.versions c.in-None.ensures.variant.1)

pub returns-in-Some : goal.returns-in-Some
returns-in-Some c = rw (← c.self.view_is) (first_some c.self.inside.versions _ c.in-Some.ensures.value c.in-Some.ensures.least)
