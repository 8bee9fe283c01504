use Rattle.hk_codec.proofs.ItemFrames.{items_are_sound, items_added}
use Rattle.hk_codec.proofs.reading.ItemFormatFormat.laws.Goals as goal

pub returns-clause-sound : goal.returns-clause-sound
returns-clause-sound c = items_are_sound

pub returns-clause-adds : goal.returns-clause-adds
returns-clause-adds c = items_added
