use Rattle.hk_model.specs.Replica.Streams.{stream_at}
use Rattle.hk_fragment_bytes.proofs.ReadingLoops.{ExtraSoFar}
use Rattle.hk_fragment_bytes.proofs.stream_reading.read_extras.Given as goal

abbrev pub invariant-loop : goal.invariant-loop
invariant-loop l = ExtraSoFar l.prefix (stream_at l.fn.got l.s).closed l.s l.count l.counter l.fn.got l.got l.before l.fn.cursor l.cursor
