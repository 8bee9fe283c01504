use Rattle.std.proofs.Common.{◌≡◌, take, get_or}
use Rattle.hk_model.specs.Replica.Streams.{unknown}
use Rattle.hk_marks.proofs.GotRules.{least_from}
use Rattle.hk_marks.proofs.got.Got.readable.Given as goal

abbrev pub invariant-loop-stream : goal.invariant-loop-stream
invariant-loop-stream l = l.least ≡ least_from (get_or l.stream-items 0 unknown).closed (take l.stream-index l.stream-items)
