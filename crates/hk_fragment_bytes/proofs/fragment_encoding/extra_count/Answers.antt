use Rattle.std.proofs.Common.{◌∙◌, sym}
use Rattle.hk_model.specs.Replica.Streams.{stream_at}
use Rattle.hk_fragment_bytes.proofs.StreamRead.{extras_counted}
use Rattle.hk_fragment_bytes.proofs.fragment_encoding.extra_count.Goals as goal

pub returns : goal.returns
returns c = c.extra_count.ensures ∙ sym (extras_counted (stream_at c.args.got.now c.args.s))
