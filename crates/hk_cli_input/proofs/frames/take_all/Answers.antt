use Rattle.hk_cli_input.proofs.Took.{took_then}
use Rattle.hk_cli_input.proofs.frames.take_all.Goals as goal

pub returns-in-Err-clause-err : goal.returns-in-Err-clause-err
returns-in-Err-clause-err g c =
    let l = c.loop-item in
    (l.yielded, l.item-iterator.rest.items, l.invariant.2, took_then g.S.Sink.took c.args.sink.now l.sink c.take.new.self l.yielded l.invariant.3 c.in-Err.ensures.err)
