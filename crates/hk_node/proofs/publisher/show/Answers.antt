use Rattle.std.proofs.Common.{sym, ap, ◌∙◌, subst}
use mathlib.Core.List.{IsPrefix}
use Rattle.hk_node.specs.declared.replica.Replica.{Replica}
use Rattle.hk_node.specs.Published.{IsReplay}
use Rattle.hk_node.proofs.PublishedCopy.{turns}
use Rattle.hk_node.proofs.publisher.show.Goals as goal

pub publish_as-requires : goal.publish_as-requires
publish_as-requires g c next is =
    let now = c.args.writer.desk.shown.value in
    let h = c.requires in
    turns _ _ now next (subst IsReplay (sym is) h.replayed) (subst (λ (z : Replica). IsPrefix now.prefix.1 z.prefix.1) (sym is) h.longer) (h.same ∙ sym (ap (λ (z : Replica). z.prefix.0) is))
