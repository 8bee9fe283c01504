use Rattle.std.proofs.Common.{◌≡◌, List, None, arith, subst, All}
use Rattle.std.proofs.lemmas.List.Elements.{recursion_from_All}
use Rattle.hk_fragment.specs.Parts.{Known, versions_listed, facts_fault}
use Rattle.hk_fragment_bytes.specs.Fragments.{KnownFits}
use Rattle.hk_fragment_bytes.proofs.FragmentFits.{fragment_fits}
use Rattle.hk_fragment_bytes.proofs.fragment_encoding.fragment_len.Goals as goal

pub returns-clause-fits : goal.returns-clause-fits
returns-clause-fits c =
    fragment_fits c.args.fragment.now
    (omega (arith, c.config.ensures.log, c.head_len-head.ensures.log))
    (omega (arith, c.config.ensures.streams, c.head_len-head.ensures.streams.0))
    (omega (arith, c.config.ensures.streams, c.head_len-head.ensures.streams.1))
    (omega (arith, c.base.ensures.value, c.head_len-head.ensures.base))
    (omega (arith, c.horizon.ensures.value, c.head_len-head.ensures.horizon))
    c.base.ensures.lawful c.got.ensures.numbered
    (subst (λ (facts : List Known). facts_fault c.args.fragment.now.base c.args.fragment.now.content.horizon None facts ≡ None) c.facts.ensures.value c.facts.ensures.faultless)
    (recursion_from_All KnownFits (versions_listed c.args.fragment.now.content) (subst (All KnownFits) c.facts.ensures.value c.facts_len.ensures.fits))
