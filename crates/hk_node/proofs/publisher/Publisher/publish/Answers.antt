use Rattle.std.proofs.Common.{◌≡◌, ◌≤◌, ◌++◌, true, drop, length, subst}
use Rattle.std.proofs.lemmas.List.{length-map}
use Rattle.hk_oplog.specs.Replay.{kind_of, is_legal, IsListOf}
use Rattle.hk_node.specs.Changes.{Lists}
use Rattle.hk_node.specs.Published.{View, queue, ops_of}
use Rattle.hk_node.proofs.publisher.Publisher.publish.Goals as goal

pub returns-clause-few : goal.returns-clause-few
returns-clause-few g c =
    let d = c.self.inside in
    let w = d.copies.writer in
    let waiting = queue (drop w.behind w.log.items) d.late in
    let few : length (ops_of waiting) ≤ 1 = rw (length-map waiting (λ o. o.op)) c.self.invariant.few in
    subst (λ (l : Lists). length l.1 ≤ 1) c.self.view_is few

pub returns-clause-legal : goal.returns-clause-legal
returns-clause-legal g c =
    let d = c.self.inside in
    let w = d.copies.writer in
    let all = w.desk.shown.value.prefix.1 ++ ops_of (queue (drop w.behind w.log.items) d.late) in
    let now : is_legal all ≡ true = subst (λ (v : View). is_legal v.1 ≡ true) c.self.invariant.list c.self.invariant.replayed.1 in
    let kind : kind_of all ≡ g.J.NodeName.kind = subst (λ (v : View). kind_of v.1 ≡ g.J.NodeName.kind) c.self.invariant.list c.self.invariant.kind_all in
    subst (λ (l : Lists). IsListOf g.J.NodeName.kind (l.0 ++ l.1)) c.self.view_is (now, kind)
