use Rattle.hk_oplog.specs.declared.op.Op.TheVariants.{Release}
use Rattle.hk_seats.proofs.WaitingChanges.{handed_reply, waiting_reply}
use Rattle.hk_host.proofs.holding.release_on.Goals as goal

pub returns-in-Ok-learn-clause-released : goal.returns-in-Ok-learn-clause-released
returns-in-Ok-learn-clause-released g c =
    let e = c.in-Ok-learn.ensures in
    handed_reply g.J.NodeName.kind c.args.seat.now _ c.in-Ok.receipt (Release c.args.hold.reader c.args.hold.at) _ c.in-Ok.ensures.change e.told e.later e.done

pub returns-in-Err-learn-clause-released : goal.returns-in-Err-learn-clause-released
returns-in-Err-learn-clause-released g c =
    let e = c.in-Err-learn.ensures in
    (waiting_reply g.J.NodeName.kind c.args.seat.now _ c.in-Ok.receipt (Release c.args.hold.reader c.args.hold.at) c.in-Err-learn.why c.in-Ok.ensures.change e.waits e.kept, (_, e.waits))
