use Rattle.hk_node.proofs.PublisherSteps.{settles}
use Rattle.hk_node.proofs.publisher.Publisher.settle.Goals as goal

pub replace_with-settled-requires : goal.replace_with-settled-requires
replace_with-settled-requires g c =
    let d = c.self.inside in
    settles g.J.NodeName.book g.J.NodeName.kind d.counter.word.book _ _ d.late (c.if-is_some.ensures) c.self.invariant
