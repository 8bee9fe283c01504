use Rattle.std.proofs.Common.{◌≡◌, []}
use Rattle.hk_net.specs.Connections.{StepsBy}
use Rattle.hk_net.proofs.link.Pipe.steps.Given as goal

abbrev pub invariant-loop : goal.invariant-loop
invariant-loop g l =
    g.H.Host.ready l.host.inner × (l.out.items ≡ [])
    × StepsBy g.H.NodeSide.side g.H.Host.may l.fn.host l.host l.fn.moment l.fn.self.exchange l.fn.out l.self.exchange l.out
