use Rattle.std.proofs.Common.{◌≡◌, ◌++◌, length, take}
use Rattle.std.specs.Int.{w16}
use Rattle.std.specs.List.{flat_map}
use Rattle.hk_frames.specs.Fields.{number}
use Rattle.hk_answers.specs.Told as spec
use Rattle.hk_answers.proofs.told.put_told_streams.Given as goal

abbrev pub invariant-loop-told : goal.invariant-loop-told
invariant-loop-told l = l.out.items ≡ l.fn.out.items ++ (number w16 (length l.streams) ++ flat_map spec.told_text (take l.told-index l.streams))
