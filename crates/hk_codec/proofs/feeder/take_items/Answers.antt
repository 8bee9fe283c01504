use Rattle.hk_codec.proofs.ItemFrames.{items_are_sound}
use Rattle.hk_codec.proofs.feeder.take_items.Goals as goal

pub take_frames-requires : goal.take_frames-requires
take_frames-requires c = items_are_sound
