use Rattle.std.proofs.Common.{◌≡◌, ◌++◌, ◌∷◌, [], List, Err, sym, ap, ◌∙◌, subst, length, length-append}
use Rattle.hk_types.specs.declared.faults.Refusal.{Refusal}
use Rattle.hk_oplog.specs.declared.op.Op.{Op}
use Rattle.hk_oplog.specs.NodeContent.{NodeContent}
use Rattle.hk_oplog.specs.Replay.{replay}
use Rattle.hk_node.specs.Changes.{AddsTo, Lists, all_of}
use Rattle.hk_node.specs.Published.{View}
use Rattle.hk_node.proofs.change.add.Goals as goal

pub returns-clause-adds : goal.returns-clause-adds
returns-clause-adds g c =
    let made : c.publish.new.self ≡ (c.args.publisher.now.0 ++ c.args.op ∷ [], []) = c.in-Ok.ensures.lists ∙ ap (λ (l : Lists). (all_of l, [])) c.put.ensures in
    let list = ap (λ (l : Lists). l.0) made in
    (made, c.receipt.ensures.list ∙ list, ap (λ (l : List Op). (replay l).damaged) (sym list) ∙ ap (λ (n : NodeContent). n.damaged) (sym c.published.ensures.body) ∙ sym c.is_damaged.ensures ∙ c.if-is_damaged.false)

pub returns-then-is_damaged-clause-adds : goal.returns-then-is_damaged-clause-adds
returns-then-is_damaged-clause-adds g c =
    let made : c.publish.new.self ≡ (c.args.publisher.now.0 ++ c.args.op ∷ [], []) = c.in-Ok.ensures.lists ∙ ap (λ (l : Lists). (all_of l, [])) c.put.ensures in
    (made, ap (λ (l : List Op). (replay l).damaged) (sym (ap (λ (l : Lists). l.0) made)) ∙ ap (λ (n : NodeContent). n.damaged) (sym c.published.ensures.body) ∙ sym c.is_damaged.ensures ∙ c.if-is_damaged.true)

pub returns-in_default-publish-clause-adds : goal.returns-in_default-publish-clause-adds
returns-in_default-publish-clause-adds g c =
    let count = ap (λ (v : View). length v.1) c.in-Some.ensures ∙ length-append c.args.publisher.now.0 (c.args.op ∷ []) in
    subst (λ (w : Refusal). AddsTo c.args.publisher.now.0 c.args.op (Err w) c.publish.new.self) (sym c.unpublished-waits.ensures) (c.in_default-publish.ensures.lists ∙ c.put.ensures, count)
