use Rattle.std.proofs.Common.{◌+◌, arith}
use Rattle.hk_fragment_bytes.proofs.StreamsRead.{is_stream}
use Rattle.hk_fragment_bytes.proofs.WrittenFragments.{counted_at, put_more}
use Rattle.hk_fragment_bytes.proofs.fragment_encoding.put_streams.Goals as goal

pub put_stream-requires-clause-counted : goal.put_stream-requires-clause-counted
put_stream-requires-clause-counted c =
    counted_at c.args.got.now c.loop-index.index c.in-Ok.s (omega arith) (is_stream (c.loop-index.index + 1) c.in-Ok.s (omega arith) (omega arith) c.in-Ok.ensures) c.requires

pub loop-index-preserved : goal.loop-index-preserved
loop-index-preserved c =
    put_more c.args.got.now c.loop-index.index c.in-Ok.s c.args.out.now.items c.loop-index.out.items c.put_stream.new.out.items (omega arith) (is_stream (c.loop-index.index + 1) c.in-Ok.s (omega arith) (omega arith) c.in-Ok.ensures) c.loop-index.invariant c.in_ok-put_stream.ensures.ok
