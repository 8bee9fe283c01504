use Rattle.std.proofs.Common.{ap}
use Rattle.hk_messages.specs.Replies.{Done}
use Rattle.hk_node.specs.Guarded.{TakesSome}
use Rattle.hk_seats.proofs.ChangeReplies.{counted_is, told_is}
use Rattle.hk_seats.proofs.WaitingChanges.{waiting_take}
use Rattle.hk_seats.proofs.changing.take.Goals as goal

pub returns-in-Ok-learn-clause-told : goal.returns-in-Ok-learn-clause-told
returns-in-Ok-learn-clause-told g c =
    let e = c.in-Ok-learn.ensures in
    told_is (TakesSome g.J.NodeName.kind c.args.items.now) c.args.seat.now _ c.in-Ok.receipt _ e.told e.later (ap Done e.done) c.in-Ok.ensures.take

pub returns-in-Ok-learn-clause-new : goal.returns-in-Ok-learn-clause-new
returns-in-Ok-learn-clause-new g c = counted_is c.in-Ok.receipt _ c.args.items.now _ _ c.in-Ok-learn.ensures.told c.in-Ok-learn.ensures.done c.in-Ok.ensures.new

pub returns-in-Err-learn-clause-told : goal.returns-in-Err-learn-clause-told
returns-in-Err-learn-clause-told g c =
    let e = c.in-Err-learn.ensures in
    waiting_take g.J.NodeName.kind c.args.items.now c.args.seat.now _ c.in-Ok.receipt c.in-Err-learn.why c.in-Ok.ensures.take e.waits e.kept
