use Rattle.hk_codec.proofs.ItemFrames.{items_are_sound}
use Rattle.hk_codec.proofs.Outlined.{outlines_added}
use Rattle.hk_codec.proofs.outline.OutlineFormatFormat.laws.Goals as goal

pub returns-clause-sound : goal.returns-clause-sound
returns-clause-sound c = items_are_sound

pub returns-clause-adds : goal.returns-clause-adds
returns-clause-adds c = outlines_added
