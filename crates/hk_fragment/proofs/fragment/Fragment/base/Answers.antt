use Rattle.hk_fragment.proofs.FragmentRules.{lawful}
use Rattle.hk_fragment.proofs.fragment.Fragment.base.Goals as goal

pub returns-clause-lawful : goal.returns-clause-lawful
returns-clause-lawful c = rw (← c.self.view_is) (lawful c.self.inside.config c.self.inside.base c.self.inside.horizon c.self.inside.got c.self.inside.facts.items c.self.invariant)
