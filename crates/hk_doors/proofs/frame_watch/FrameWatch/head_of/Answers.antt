use Rattle.std.proofs.Common.{sym, ap, ◌∙◌}
use Rattle.std.specs.Int.{w32, from_be_bytes}
use Rattle.std.proofs.lemmas.List.{take-take}
use Rattle.hk_doors.proofs.frame_watch.FrameWatch.head_of.Goals as goal

pub returns-clause-len : goal.returns-clause-len
returns-clause-len c = c.length_of-len.ensures.value ∙ sym (ap (from_be_bytes w32) (take-take 4 c.head_len-head.result c.args.bytes.now c.head_len-head.ensures.some))
