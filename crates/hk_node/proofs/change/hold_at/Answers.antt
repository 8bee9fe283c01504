use Rattle.std.proofs.Common.{List, refl, sym, ap, ◌∙◌, subst}
use Rattle.hk_types.specs.declared.faults.Refusal.{Refusal}
use Rattle.hk_oplog.specs.declared.op.Op.{Op}
use Rattle.hk_oplog.specs.declared.op.Op.TheVariants.{Hold as HoldAt}
use Rattle.hk_oplog.specs.Replay.{replay}
use Rattle.hk_node.specs.Changes.{Lists, Refuses}
use Rattle.hk_oplog.proofs.Holds.{replay_count}
use Rattle.hk_node.proofs.WaitingHold.{hold_waits}
use Rattle.hk_node.proofs.change.hold_at.Goals as goal

pub returns-in-Ok-clause-hold : goal.returns-in-Ok-clause-hold
returns-in-Ok-clause-hold g c =
    let h = c.in-Ok.ensures.change in
    (refl, c.hold_count-reader.ensures.count ∙ ap (λ (l : List Op). (replay l).hold_count) (ap (λ (l : Lists). l.0) h.1 ∙ sym h.2) ∙ replay_count c.in-Ok.receipt c.in-Ok.ensures.legal)

pub returns-in-Err-Unpublished-clause-waits : goal.returns-in-Err-Unpublished-clause-waits
returns-in-Err-Unpublished-clause-waits g c =
    let e = c.in-Err-Unpublished in
    let n = c.hold_count-reader-in-Err-Unpublished in
    hold_waits c.args.publisher.now c.change.new.publisher c.args.time e.ops n.result
    (subst (λ (w : Refusal). Refuses c.args.publisher.now (HoldAt c.args.time) w c.change.new.publisher) e.field-0-is e.ensures.change) n.ensures.legal n.ensures.count
