use Rattle.std.proofs.Common.{◌∙◌}
use Rattle.hk_fragment.specs.Parts.{fragment_seen, fragment_fault}
use Rattle.hk_delta.proofs.CutLists.{parts_faultless, cut_is}
use Rattle.hk_delta.proofs.cutting.fragment_from.Goals as goal

pub of_parts-requires-clause-faultless : goal.of_parts-requires-clause-faultless
of_parts-requires-clause-faultless c =
    let s = c.args.state.now in
    let es = c.requires.left.0 in
    let list = c.requires.left.1.1 in
    let streams = c.in_ok-got.ensures.ok ∙ c.got.ensures in
    (λ i. fragment_fault c.args.base (c.horizon.ensures.value i) (streams i) (list i)) ∙ parts_faultless s c.horizon.ensures.lawful c.args.base c.requires.base es c.requires.left.1.0

pub returns-clause-ok : goal.returns-clause-ok
returns-clause-ok c =
    let s = c.args.state.now in
    let es = c.requires.left.0 in
    let list = c.requires.left.1.1 in
    let streams = c.in_ok-got.ensures.ok ∙ c.got.ensures in
    c.of_parts.ensures ∙ (λ i. fragment_seen c.config.result c.args.base (c.horizon.ensures.value i) (streams i) (list i)) ∙ cut_is s c.horizon.ensures.lawful c.args.base c.config.result c.config.ensures.log es c.requires.left.1.0
