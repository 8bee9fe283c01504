use Rattle.std.proofs.Common.{drop, subst}
use Rattle.std.specs.Prelude.{None}
use Rattle.hk_oplog.specs.declared.op.NodeKind.{NodeKind}
use Rattle.hk_node.specs.Published.{queue, IsPublisher}
use Rattle.hk_node.proofs.PublisherSteps.{new_publisher}
use Rattle.hk_node.proofs.publisher.Publisher.new.Goals as goal

pub invariant_of-result : goal.invariant_of-result
invariant_of-result g c =
    let w = c.args.copies.writer in
    subst (λ (d : NodeKind). IsPublisher g.J.NodeName.book d c.args.counter.word.book w.desk.shown.value (queue (drop w.behind w.log.items) None)) c.requires.kind
    (new_publisher g.J.NodeName.book c.args.counter.word.book w.desk.shown.value c.args.kind (drop w.behind w.log.items) c.requires.list c.requires.body c.requires.book.0 c.requires.book.1 c.requires.none)
