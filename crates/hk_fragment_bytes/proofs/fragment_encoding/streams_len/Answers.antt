use Rattle.std.proofs.Common.{◌+◌, arith}
use Rattle.hk_fragment_bytes.proofs.StreamsRead.{is_stream}
use Rattle.hk_fragment_bytes.proofs.WrittenFragments.{counted_at}
use Rattle.hk_fragment_bytes.proofs.fragment_encoding.streams_len.Goals as goal

pub stream_len-total-requires-clause-counted : goal.stream_len-total-requires-clause-counted
stream_len-total-requires-clause-counted c =
    counted_at c.args.got.now c.loop-index.index c.in-Ok.s (omega arith) (is_stream (c.loop-index.index + 1) c.in-Ok.s (omega arith) (omega arith) c.in-Ok.ensures) c.requires
