use Rattle.std.proofs.Common.{arith}
use Rattle.hk_exchange.proofs.Pieces.{takes_more}
use Rattle.hk_exchange.proofs.unwritten.write_some.Goals as goal

pub writes-preserved : goal.writes-preserved
writes-preserved g c =
    record {
      some = omega (arith, c.hand_on-count.ensures.some);
      taken = takes_more _ _ _ _ _ _ c.args.bytes.now.items c.args.from c.writes.done c.hand_on-count.result.0 c.writes.invariant.taken c.hand_on-count.ensures.taken;
    }

pub returns-in-Some-clause-taken : goal.returns-in-Some-clause-taken
returns-in-Some-clause-taken g c = takes_more _ _ _ _ _ _ c.args.bytes.now.items c.args.from c.writes.done c.hand_on-count.result.0 c.writes.invariant.taken c.hand_on-count.ensures.taken
