use Rattle.hk_decode.proofs.PartsRead.{part_read}
use Rattle.hk_decode.proofs.parallel.read_part.Goals as goal

pub returns : goal.returns
returns c = part_read c.args.bytes.now c.args.span.start c.args.span.end c.items_of-items.result c.requires.0 c.requires.1 c.items_of-items.ensures
