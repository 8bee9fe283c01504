use Rattle.std.proofs.Common.{◌≡◌, List, None, subst}
use Rattle.hk_fragment.specs.Parts.{Known, facts_fault}
use Rattle.hk_fragment.specs.Heads.{facts_of}
use Rattle.hk_fragment.proofs.RisingParts.{faultless_rise}
use Rattle.hk_values.proofs.split.Split.whole.Goals as goal

pub returns-clause-rises : goal.returns-clause-rises
returns-clause-rises c =
    let f = c.self.inside.whole in
    rw (← c.self.view_is) (faultless_rise f.base f.content.horizon None (facts_of f)
    (subst (λ (facts : List Known). facts_fault f.base f.content.horizon None facts ≡ None) c.facts-facts_rise.ensures.value c.facts-facts_rise.ensures.faultless))
