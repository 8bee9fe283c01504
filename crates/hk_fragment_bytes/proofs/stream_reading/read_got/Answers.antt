use Rattle.std.proofs.Common.{◌≤◌, ◌<◌, arith}
use Rattle.hk_model.specs.Replica.Content.{least_closed}
use Rattle.hk_fragment_bytes.proofs.FactsRead.{got_read, got_short}
use Rattle.hk_fragment_bytes.proofs.stream_reading.read_got.Goals as goal

pub returns-then-number-clause-read : goal.returns-then-number-clause-read
returns-then-number-clause-read c =
    let lt : least_closed c.read_streams.new.got < c.args.horizon = omega (arith, c.if-number.true, c.number.ensures.value, c.number-2.ensures.value, c.readable.ensures.value) in
    got_short c.args.horizon c.args.config.streams c.args.cursor.now c.read_streams.new.cursor c.read_streams.new.got (rw (← c.streams.ensures.value) c.in_ok-read_streams.ensures.ok) lt

pub returns-clause-read : goal.returns-clause-read
returns-clause-read c =
    let le : c.args.horizon ≤ least_closed c.read_streams.new.got = omega (arith, c.if-number.false, c.number.ensures.value, c.number-2.ensures.value, c.readable.ensures.value) in
    got_read c.args.horizon c.args.config.streams c.args.cursor.now c.read_streams.new.cursor c.read_streams.new.got (rw (← c.streams.ensures.value) c.in_ok-read_streams.ensures.ok) le
