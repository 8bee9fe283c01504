use Rattle.std.proofs.Common.{◌-◌, length}
use Rattle.hk_frames.proofs.FrameStream.{SoFar}
use Rattle.hk_frames.proofs.frames.take_frames.Given as goal

abbrev pub invariant-frames : goal.invariant-frames
invariant-frames g l = SoFar g.F.Format.format.seen g.F.Format.format.meant g.F.Format.format.rest_text g.F.Format.format.IsEncodable l.bytes l.fn.out.items l.out.items l.used

abbrev pub decreases-frames : goal.decreases-frames
decreases-frames g l = length l.bytes - l.used
