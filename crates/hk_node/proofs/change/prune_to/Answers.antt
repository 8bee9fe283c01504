use Rattle.std.proofs.Common.{List, sym, ap, ◌∙◌}
use Rattle.hk_oplog.specs.declared.op.Op.{Op}
use Rattle.hk_oplog.specs.NodeContent.{NodeContent}
use Rattle.hk_oplog.specs.Replay.{replay}
use Rattle.hk_node.specs.Changes.{Lists}
use Rattle.hk_node.proofs.change.prune_to.Goals as goal

pub returns-clause-horizon : goal.returns-clause-horizon
returns-clause-horizon g c =
    let h = c.in_ok-receipt.ensures.change in
    c.horizon-horizon.ensures ∙ ap (λ (n : NodeContent). n.content.horizon) c.published.ensures.body ∙ ap (λ (l : List Op). (replay l).content.horizon) (ap (λ (l : Lists). l.0) h.1 ∙ sym h.2)
