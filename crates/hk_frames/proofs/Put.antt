-- What is put behind what stands there, part by part.
use Rattle.std.proofs.Common.{append_assoc}
use Rattle.hk_frames.proofs.Prefix.{kept_all, kept_before, kept_both}

pub ruleset all = (append_assoc, kept_all, kept_before, kept_both)
