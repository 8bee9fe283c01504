use Rattle.hk_codec.proofs.ItemFrames.{item_reads}
use Rattle.hk_codec.proofs.encoding.encode_version.Goals as goal

pub returns-then-is_err-clause-reads : goal.returns-then-is_err-clause-reads
returns-then-is_err-clause-reads c = item_reads c.args.version c.args.item.now c.requires c.put_version.ensures.fits

pub returns-clause-reads : goal.returns-clause-reads
returns-clause-reads c = item_reads c.args.version c.args.item.now c.requires c.put_version.ensures.fits
