use mathlib.Core.List.{IsPrefix}
use Rattle.hk_net.proofs.turns.release_some.Given as goal

abbrev pub invariant-loop : goal.invariant-loop
invariant-loop g l = g.H.Host.ready l.both.inner × IsPrefix (g.H.NodeSide.side.list l.fn.both.inner) (g.H.NodeSide.side.list l.both.inner)
