use Rattle.std.proofs.Common.{sym}
use Rattle.hk_fragment.proofs.FragmentRules.{lawful, listed, facts_tested}
use Rattle.hk_fragment.proofs.fragment.Fragment.facts.Goals as goal

pub returns-clause-value : goal.returns-clause-value
returns-clause-value c =
    rw (← c.self.view_is, c.deref.ensures.value) (sym (listed c.self.inside.config c.self.inside.base c.self.inside.horizon c.self.inside.got c.self.inside.facts.items (facts_tested c.self.inside.base c.self.inside.horizon c.self.inside.got c.self.inside.facts.items c.self.invariant.faultless)))

pub returns-clause-faultless : goal.returns-clause-faultless
returns-clause-faultless c =
    rw (← c.self.view_is, c.deref.ensures.value) (facts_tested c.self.inside.base c.self.inside.horizon c.self.inside.got c.self.inside.facts.items c.self.invariant.faultless)

pub returns-clause-lawful : goal.returns-clause-lawful
returns-clause-lawful c = rw (← c.self.view_is) (lawful c.self.inside.config c.self.inside.base c.self.inside.horizon c.self.inside.got c.self.inside.facts.items c.self.invariant)
