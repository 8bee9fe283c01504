use Rattle.hk_codec.proofs.ItemFrames.{items_read}
use Rattle.hk_codec.proofs.laws.one_reading.Goals as goal

pub returns : goal.returns
returns c = items_read
