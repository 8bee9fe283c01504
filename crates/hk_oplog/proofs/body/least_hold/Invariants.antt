use Rattle.std.proofs.Common.{◌≡◌, fold, map}
use Rattle.hk_oplog.specs.Pins.{pin_of, pins_of}
use Rattle.hk_oplog.specs.Replay.{first_of_two, least_hold}
use Rattle.hk_oplog.proofs.body.least_hold.Given as goal

-- the pins to come make of the least so far the least of all
abbrev pub invariant-loop-reader : goal.invariant-loop-reader
invariant-loop-reader l = fold first_of_two l.least (map pin_of l.reader-iterator) ≡ least_hold (pins_of l.holds)
