use Rattle.hk_oplog.specs.declared.op.Op.TheVariants.{Join}
use Rattle.hk_seats.proofs.ChangeReplies.{counted_is}
use Rattle.hk_seats.proofs.WaitingChanges.{handed_reply, waiting_reply}
use Rattle.hk_seats.proofs.changing.join_gathered.Goals as goal

pub returns-in-Ok-learn-clause-told : goal.returns-in-Ok-learn-clause-told
returns-in-Ok-learn-clause-told g c =
    let e = c.in-Ok-learn.ensures in
    handed_reply g.J.NodeName.kind c.args.seat.now _ c.in-Ok.receipt (Join c.args.fragment) _ c.in-Ok.ensures.change e.told e.later e.done

pub returns-in-Ok-learn-clause-new : goal.returns-in-Ok-learn-clause-new
returns-in-Ok-learn-clause-new g c = counted_is c.in-Ok.receipt _ c.args.items.now _ _ c.in-Ok-learn.ensures.told c.in-Ok-learn.ensures.done c.in-Ok.ensures.new

pub returns-in-Err-learn-clause-told : goal.returns-in-Err-learn-clause-told
returns-in-Err-learn-clause-told g c =
    let e = c.in-Err-learn.ensures in
    waiting_reply g.J.NodeName.kind c.args.seat.now _ c.in-Ok.receipt (Join c.args.fragment) c.in-Err-learn.why c.in-Ok.ensures.change e.waits e.kept
