use Rattle.std.proofs.Common.{◌≡◌, [], ◌∷◌, ◌++◌, List, None, drop, sym, ap, ◌∙◌, subst}
use Rattle.hk_oplog.specs.declared.op.Op.{Op}
use Rattle.hk_oplog.specs.Replay.{replay, refusal_of}
use Rattle.hk_node.specs.Changes.{Lists}
use Rattle.hk_node.specs.Published.{queue, ops_of}
use Rattle.hk_node.proofs.PublisherSteps.{none_pending, puts}
use Rattle.hk_node.proofs.publisher.Publisher.put.Goals as goal

pub invariant_of-self : goal.invariant_of-self
invariant_of-self g c =
    let d = c.self.inside in
    let pend = drop d.copies.writer.behind d.copies.writer.log.items in
    let shown = d.copies.writer.desk.shown.value in
    let op = c.args.op in
    let list : shown.prefix.1 ≡ c.args.self.now.0 = ap (λ (l : Lists). l.0) c.self.view_is in
    let empty : ops_of (queue pend d.late) ≡ [] = ap (λ (l : Lists). l.1) c.self.view_is ∙ c.requires.none in
    puts g.J.NodeName.book g.J.NodeName.kind d.counter.word.book shown (queue pend d.late) pend (record { op = op; prefix = c.args.prefix }) c.self.invariant
    (none_pending pend d.late empty)
    (subst (λ (l : List Op). refusal_of (replay l) op ≡ None) (sym list) c.requires.legal)
    (c.requires.prefix ∙ (λ i. (g.J.NodeName.book, sym list i ++ op ∷ [])))
