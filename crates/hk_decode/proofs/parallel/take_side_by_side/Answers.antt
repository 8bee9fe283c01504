use Rattle.hk_decode.proofs.PartsRead.{tail_adds}
use Rattle.hk_decode.proofs.parallel.take_side_by_side.Goals as goal

pub returns-clause-read : goal.returns-clause-read
returns-clause-read g c = tail_adds c.args.bytes.now c.args.out.now.items c.take_parts.new.out.items c.take_items.new.out.items c.in_ok-used.used c.in_ok-progress.progress.used c.in_ok-progress.progress.fault c.in_ok-used.ensures c.in_ok-progress.ensures.read
