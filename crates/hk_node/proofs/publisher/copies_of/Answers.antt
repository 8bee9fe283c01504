use Rattle.std.proofs.Common.{◌≡◌, Result, Ok, refl, sym, ap, ◌∙◌, subst, arith}
use Rattle.core.specs.declared.alloc.AllocError.{AllocError}
use Rattle.hk_oplog.specs.Replay.{is_legal, replay, start_content}
use Rattle.hk_node.specs.declared.replica.Replica.{Replica}
use Rattle.hk_node.specs.Published.{IsReplay, ShowsAll}
use Rattle.hk_node.proofs.PublishedCopy.{begins}
use Rattle.hk_node.proofs.publisher.copies_of.Goals as goal

pub new-requires-3-clause-alike : goal.new-requires-3-clause-alike
new-requires-3-clause-alike g c =
    let one : c.in_ok-one.one ≡ record { body = start_content c.args.kind; prefix = c.args.prefix.now } = c.in_ok-one.ensures.ok ∙ (λ i. record { body = start_content (c.again.ensures i); prefix = c.again-2.ensures i }) in
    let other : c.in_ok-other.other ≡ record { body = start_content c.args.kind; prefix = c.args.prefix.now } = c.in_ok-other.ensures.ok ∙ (λ i. record { body = start_content (c.again-3.ensures i); prefix = c.again-4.ensures i }) in
    one ∙ sym other

pub new-requires-3-clause-readers : goal.new-requires-3-clause-readers
new-requires-3-clause-readers g c = (c.requires.places.0, omega arith)

pub new-requires-3-clause-rule : goal.new-requires-3-clause-rule
new-requires-3-clause-rule g c =
    let one : c.in_ok-one.one ≡ record { body = start_content c.args.kind; prefix = c.args.prefix.now } = c.in_ok-one.ensures.ok ∙ (λ i. record { body = start_content (c.again.ensures i); prefix = c.again-2.ensures i }) in
    let list = ap (λ (x : Replica). x.prefix.1) one ∙ c.requires.list in
    let replayed : IsReplay c.in_ok-one.one = (ap (λ (x : Replica). x.body) one ∙ sym (ap replay list), ap is_legal list) in
    begins c.in_ok-one.one replayed

pub make_room-requires-clause-none : goal.make_room-requires-clause-none
make_room-requires-clause-none g c = c.in_ok-writer.ensures.1

pub make_room-requires-clause-replayed : goal.make_room-requires-clause-replayed
make_room-requires-clause-replayed g c =
    let one : c.in_ok-one.one ≡ record { body = start_content c.args.kind; prefix = c.args.prefix.now } = c.in_ok-one.ensures.ok ∙ (λ i. record { body = start_content (c.again.ensures i); prefix = c.again-2.ensures i }) in
    let list = ap (λ (x : Replica). x.prefix.1) one ∙ c.requires.list in
    subst IsReplay (sym c.in_ok-writer.ensures.0) (ap (λ (x : Replica). x.body) one ∙ sym (ap replay list), ap is_legal list)

pub show-writer-requires : goal.show-writer-requires
show-writer-requires g c = c.if-not-make_room.ensures.ready refl

pub returns-clause-none : goal.returns-clause-none
returns-clause-none g c =
    let all = subst (λ (r : Result (Unit {0}) AllocError). ShowsAll c.make_room.new.writer c.show-writer.result.0 r) c.in_ok-shown.was c.show-writer.ensures.values in
    all.1

pub returns-clause-shown : goal.returns-clause-shown
returns-clause-shown g c =
    let all = subst (λ (r : Result (Unit {0}) AllocError). ShowsAll c.make_room.new.writer c.show-writer.result.0 r) c.in_ok-shown.was c.show-writer.ensures.values in
    all.0 ∙ c.if-not-make_room.ensures.same refl ∙ c.in_ok-writer.ensures.0 ∙ c.in_ok-one.ensures.ok ∙ (λ i. record { body = start_content (c.again.ensures i); prefix = c.again-2.ensures i })
