use Rattle.hk_fragment_bytes.proofs.ReadingLoops.{WaitsSoFar}
use Rattle.hk_fragment_bytes.proofs.stream_reading.read_waits.Given as goal

abbrev pub invariant-loop : goal.invariant-loop
invariant-loop l = WaitsSoFar l.prefix l.s l.count l.counter l.fn.got l.got l.before l.fn.cursor l.cursor
