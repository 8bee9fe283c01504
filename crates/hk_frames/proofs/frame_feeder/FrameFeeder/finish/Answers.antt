use Rattle.std.proofs.Common.{rules}
use Rattle.hk_frames.proofs.frame_feeder.FrameFeeder.finish.Goals as goal

pub returns : goal.returns
returns g c = search rules
