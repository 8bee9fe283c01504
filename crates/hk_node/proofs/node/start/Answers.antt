use Rattle.std.proofs.Common.{◌∷◌, [], length, drop, sym, ap, ◌∙◌, arith}
use Rattle.hk_oplog.specs.declared.op.Op.TheVariants.{Start}
use Rattle.hk_oplog.specs.Replay.{kind_of, start_content}
use Rattle.hk_node.specs.declared.replica.Replica.{Replica}
use Rattle.hk_node.specs.Published.{View}
use Rattle.hk_node.proofs.node.start.Goals as goal

pub copies_of-requires-clause-list : goal.copies_of-requires-clause-list
copies_of-requires-clause-list g c = let parts = c.into_parts-kind.ensures in ap (λ (v : View). v.1) parts.prefix ∙ (λ i. Start (sym (c.again.ensures ∙ parts.kind) i) ∷ [])

pub seats_of-requires-clause-kind : goal.seats_of-requires-clause-kind
seats_of-requires-clause-kind g c = ap (λ (v : View). kind_of v.1) c.into_parts-kind.ensures.prefix ∙ ap (λ l. l.1) c.requires.name

pub seats_of-requires-clause-node : goal.seats_of-requires-clause-node
seats_of-requires-clause-node g c =
    let prefix = c.into_parts-kind.ensures.prefix in
    (ap (λ (v : View). v.0) prefix ∙ ap (λ l. l.0) c.requires.name, omega (arith, ap (λ (v : View). length v.1) prefix))

pub new-publisher-requires-clause-body : goal.new-publisher-requires-clause-body
new-publisher-requires-clause-body g c =
    ap (λ d. d.value.body) c.seats_of.ensures.kept.0 ∙ ap (λ (x : Replica). x.body) c.in_ok-copies.ensures.shown ∙ ap start_content c.again.ensures

pub new-publisher-requires-clause-book : goal.new-publisher-requires-clause-book
new-publisher-requires-clause-book g c =
    let parts = c.into_parts-kind.ensures in
    let name = ap (λ l. l.0) c.requires.name in
    (ap (λ d. d.value.prefix.0) c.seats_of.ensures.kept.0 ∙ ap (λ (x : Replica). x.prefix.0) c.in_ok-copies.ensures.shown ∙ ap (λ (v : View). v.0) parts.prefix ∙ name, parts.counter ∙ name)

pub new-publisher-requires-clause-kind : goal.new-publisher-requires-clause-kind
new-publisher-requires-clause-kind g c = c.into_parts-kind.ensures.kind ∙ ap (λ l. l.1) c.requires.name

pub new-publisher-requires-clause-list : goal.new-publisher-requires-clause-list
new-publisher-requires-clause-list g c =
    let parts = c.into_parts-kind.ensures in
    ap (λ d. d.value.prefix.1) c.seats_of.ensures.kept.0 ∙ ap (λ (x : Replica). x.prefix.1) c.in_ok-copies.ensures.shown ∙ ap (λ (v : View). v.1) parts.prefix ∙ (λ i. Start (sym parts.kind i) ∷ [])

pub new-publisher-requires-clause-none : goal.new-publisher-requires-clause-none
new-publisher-requires-clause-none g c = let kept = c.seats_of.ensures.kept in (λ i. drop (kept.2 i) (kept.1 i).items) ∙ c.in_ok-copies.ensures.none

pub returns-clause-seats : goal.returns-clause-seats
returns-clause-seats g c = λ k d h. c.in_ok-seats.ensures.seats.1 k d h ∙ ap (λ (v : View). v.1) c.into_parts-kind.ensures.prefix
