use Rattle.std.proofs.Common.{◌≡◌, ◌≤◌, ◌+◌, length, take, drop}
use Rattle.hk_exchange.specs.Pipes.{Takes}
use Rattle.hk_exchange.proofs.unwritten.write_some.Given as goal

abbrev pub invariant-writes : goal.invariant-writes
invariant-writes g l =
    record {
      some : l.from + l.done ≤ length l.bytes.items;
      taken : Takes (g.W.Write.contents l.fn.socket) (g.W.Write.contents l.socket) l.fn.sent l.sent (take l.done (drop l.from l.bytes.items));
    }
