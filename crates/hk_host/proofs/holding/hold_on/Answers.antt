use Rattle.hk_seats.proofs.WaitingChanges.{waiting_hold}
use Rattle.hk_host.proofs.holding.hold_on.Goals as goal

pub returns-in-Ok-learn-clause-held : goal.returns-in-Ok-learn-clause-held
returns-in-Ok-learn-clause-held g c = (c.in-Ok.receipt, c.in-Ok-learn.ensures.later, c.in-Ok-learn.ensures.told, c.in-Ok.ensures.last, c.in-Ok.ensures.hold)

pub returns-in-Err-learn-clause-held : goal.returns-in-Err-learn-clause-held
returns-in-Err-learn-clause-held g c =
    let e = c.in-Err-learn.ensures in
    (waiting_hold g.J.NodeName.kind c.args.time c.in-Ok.receipt c.in-Ok.hold c.in-Err-learn.why c.in-Ok.ensures.change c.in-Ok.ensures.legal c.in-Ok.ensures.last c.in-Ok.ensures.hold e.waits, e.kept)
