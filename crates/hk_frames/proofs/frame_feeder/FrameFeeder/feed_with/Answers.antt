use Rattle.std.proofs.Common.{rules}
use Rattle.hk_frames.proofs.frame_feeder.FrameFeeder.feed_with.Goals as goal

pub returns-in-Err-clause-memory : goal.returns-in-Err-clause-memory
returns-in-Err-clause-memory g c = search rules
