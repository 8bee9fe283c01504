use Rattle.std.proofs.Common.{sym}
use Rattle.hk_model.specs.Replica.Streams.{stream_at}
use Rattle.hk_marks.proofs.Prefixes.{prefix_reached}
use Rattle.hk_fragment_bytes.proofs.fragment_encoding.prefix.Goals as goal

pub returns : goal.returns
returns c = sym (prefix_reached (stream_at c.args.got.now c.args.s).taken c.prefix.result c.prefix.ensures.value)
