use Rattle.std.proofs.Common.{refl, subst, Ok, Result, List}
use Rattle.hk_types.specs.declared.faults.Refusal.{Refusal}
use Rattle.hk_oplog.specs.declared.op.Op.{Op}
use Rattle.hk_node.specs.Changes.{ChangesSome}
use Rattle.hk_seats.proofs.WaitingChanges.{handed_reply, waiting_reply}
use Rattle.hk_seats.proofs.changing.reply_to.Goals as goal

pub returns-in-Ok-learn-clause-told : goal.returns-in-Ok-learn-clause-told
returns-in-Ok-learn-clause-told g c = λ o made.
    let kind = g.J.NodeName.kind in
    let answered : ChangesSome g.J.NodeName.kind o (Ok c.in-Ok.receipt) = subst (λ (r : Result (List Op) Refusal). ChangesSome g.J.NodeName.kind o r) c.in-Ok.is made in
    let e = c.in-Ok-learn.ensures in handed_reply kind c.args.seat.now c.learn.new.seat c.in-Ok.receipt o c.in-Ok-learn.ops answered e.told e.later e.done

pub returns-in-Err-learn-clause-told : goal.returns-in-Err-learn-clause-told
returns-in-Err-learn-clause-told g c = λ o made.
    let kind = g.J.NodeName.kind in
    let answered : ChangesSome g.J.NodeName.kind o (Ok c.in-Ok.receipt) = subst (λ (r : Result (List Op) Refusal). ChangesSome g.J.NodeName.kind o r) c.in-Ok.is made in
    let e = c.in-Err-learn.ensures in waiting_reply kind c.args.seat.now c.learn.new.seat c.in-Ok.receipt o c.in-Err-learn.why answered e.waits e.kept

pub returns-in-Err-clause-told : goal.returns-in-Err-clause-told
returns-in-Err-clause-told g c = λ o made. (subst (λ (r : Result (List Op) Refusal). ChangesSome g.J.NodeName.kind o r) c.in-Err.is made, refl)
