use Rattle.std.proofs.Common.{◌≡◌, replicate}
use Rattle.hk_model.specs.Replica.Streams.{unknown}
use Rattle.hk_marks.proofs.got.Got.new.Given as goal

abbrev pub invariant-streams : goal.invariant-streams
invariant-streams l = l.streams.items ≡ replicate l.counter unknown
