use Rattle.std.proofs.Common.{◌++◌, ◌∙◌, ap, is_ok, List}
use Rattle.hk_fragment.specs.Parts.{Known}
use Rattle.hk_fragment.specs.Assemblies.{rises}
use Rattle.hk_fragment.proofs.RisingParts.{rises_so}
use Rattle.hk_fragment.proofs.assembly.Assembly.rises_with.Goals as goal

pub returns : goal.returns
returns c =
    let p = c.self.inside in
    c.is_ok.ensures.value ∙ ap is_ok c.last_if_rising.ensures ∙ rises_so p.facts.items c.args.part.now p.last c.self.invariant ∙ ap (λ (facts : List Known). rises (facts ++ c.args.part.now)) c.self.view_is
