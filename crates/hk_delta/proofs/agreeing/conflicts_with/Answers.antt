use Rattle.std.proofs.Common.{◌∙◌}
use Rattle.std.specs.List.{list_any}
use Rattle.hk_store.specs.Versions.{value_conflicts_at}
use Rattle.hk_fragment.specs.Parts.{Known}
use Rattle.hk_delta.proofs.MergeInputs.{listed_conflicts}
use Rattle.hk_delta.proofs.agreeing.conflicts_with.Goals as goal

pub returns : goal.returns
returns c =
    let own = c.facts.ensures in
    let sent = c.facts-2 in
    c.has_conflict.ensures
    ∙ (λ i. list_any (λ (e : Known). value_conflicts_at (record { rows = own.rows i; ends = own.ends i }) e.0 e.1) sent.result.now)
    ∙ listed_conflicts c.args.state.now c.args.fragment.now.content sent.result.now sent.ensures.value
