use Rattle.std.proofs.Common.{◌≡◌, List, None, subst}
use Rattle.hk_fragment.specs.Parts.{Known, facts_fault}
use Rattle.hk_values.proofs.OwnParts.{of_own_facts, of_own_parts}
use Rattle.hk_values.proofs.laws.fragment_law.Goals as goal

pub returns-clause-facts : goal.returns-clause-facts
returns-clause-facts c =
    let f = c.args.fragment.now in
    of_own_facts f c.facts-facts_rise.ensures.lawful (subst (λ (facts : List Known). facts_fault f.base f.content.horizon None facts ≡ None) c.facts-facts_rise.ensures.value c.facts-facts_rise.ensures.faultless)

pub returns-clause-parts : goal.returns-clause-parts
returns-clause-parts c =
    let f = c.args.fragment.now in
    of_own_parts f c.facts-facts_rise.ensures.lawful (subst (λ (facts : List Known). facts_fault f.base f.content.horizon None facts ≡ None) c.facts-facts_rise.ensures.value c.facts-facts_rise.ensures.faultless)
