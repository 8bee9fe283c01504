use Rattle.std.proofs.Common.{◌≡◌, take}
use Rattle.hk_marks.proofs.got.Got.copy.Given as goal

abbrev pub invariant-loop-stream : goal.invariant-loop-stream
invariant-loop-stream l = l.streams.items ≡ take l.stream-index l.stream-items
