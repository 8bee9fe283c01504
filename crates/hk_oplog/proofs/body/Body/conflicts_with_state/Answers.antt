use Rattle.std.proofs.Common.{ap, ◌∙◌}
use Rattle.hk_model.specs.Replica.Fragments.{cut}
use Rattle.hk_model.specs.Replica.Rules.{contents_conflict}
use Rattle.hk_oplog.specs.NodeContent.{NodeContent}
use Rattle.hk_oplog.proofs.JoinTests.{state_conflicts}
use Rattle.hk_oplog.proofs.body.Body.conflicts_with_state.Goals as goal

pub returns : goal.returns
returns c =
    c.conflicts_with.ensures
    ∙ state_conflicts c.self.inside.state c.args.state.now c.facts.result.now c.facts-theirs.result.now c.horizon-lawful.ensures.lawful c.facts.ensures.rows c.facts.ensures.ends c.facts-theirs.ensures.rows c.facts-theirs.ensures.ends
    ∙ ap (λ (n : NodeContent). contents_conflict n.content (cut c.args.state.now 0).content) c.self.view_is
