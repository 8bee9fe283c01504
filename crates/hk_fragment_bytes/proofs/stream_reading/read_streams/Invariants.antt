use Rattle.hk_fragment_bytes.proofs.StreamsRead.{StreamsSoFar}
use Rattle.hk_fragment_bytes.proofs.stream_reading.read_streams.Given as goal

abbrev pub invariant-loop-index : goal.invariant-loop-index
invariant-loop-index l = StreamsSoFar l.count l.index l.got l.fn.cursor l.cursor
