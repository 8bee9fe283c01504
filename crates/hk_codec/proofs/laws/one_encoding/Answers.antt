use Rattle.hk_codec.proofs.ItemFrames.{items_encode}
use Rattle.hk_codec.proofs.laws.one_encoding.Goals as goal

pub returns : goal.returns
returns c = items_encode
