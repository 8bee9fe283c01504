use Rattle.std.proofs.Common.{◌≡◌, map, take}
use Rattle.hk_marks.specs.Told.{stream_told}
use Rattle.hk_marks.proofs.got.Got.told.Given as goal

abbrev pub invariant-loop-stream : goal.invariant-loop-stream
invariant-loop-stream l = l.told.items ≡ map stream_told (take l.stream-index l.stream-items)
