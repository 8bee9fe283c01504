use Rattle.std.proofs.Common.{sym, ap, ◌∙◌}
use Rattle.hk_model.specs.Replica.Fragments.{cut}
use Rattle.hk_oplog.specs.NodeContent.{NodeContent}
use Rattle.hk_oplog.specs.Replay.{join_refused}
use Rattle.hk_oplog.specs.declared.op.Op.TheVariants.{Merge}
use Rattle.hk_node.proofs.RefusalTests.{test_refuses}
use Rattle.hk_node.proofs.change.refusal_of_merge.Goals as goal

pub returns-in-Some-clause-refuses : goal.returns-in-Some-clause-refuses
returns-in-Some-clause-refuses g c =
    test_refuses c.args.publisher.now c.publish.new.self (Merge (cut c.args.state.now 0)) c.in-Some.why c.in-Ok.ensures.lists
    (sym c.in-Some.is ∙ c.merge_refusal.ensures ∙ ap (λ (n : NodeContent). join_refused n (cut c.args.state.now 0)) c.published.ensures.body)
