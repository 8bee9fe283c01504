use Rattle.std.proofs.Common.{◌-◌, length}
use Rattle.hk_codec.proofs.RewrittenFrames.{Rewritten}
use Rattle.hk_codec.proofs.rewriting.rewrite_frames.Given as goal

abbrev pub invariant-frames : goal.invariant-frames
invariant-frames l = Rewritten l.bytes l.fn.out.items l.out.items l.used

abbrev pub decreases-frames : goal.decreases-frames
decreases-frames l = length l.bytes - l.used
