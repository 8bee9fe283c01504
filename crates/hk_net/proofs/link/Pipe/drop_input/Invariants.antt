use Rattle.std.proofs.Common.{◌≡◌}
use Rattle.hk_net.proofs.link.Pipe.drop_input.Given as goal

abbrev pub invariant-loop : goal.invariant-loop
invariant-loop l = l.self.exchange ≡ l.fn.self.exchange
