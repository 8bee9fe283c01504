use Rattle.std.proofs.Common.{arith}
use Rattle.hk_link_state.proofs.LettingGo.{all_asked}
use Rattle.hk_link_state.proofs.link_holds.release_each.Goals as goal

pub returns-clause-asked : goal.returns-clause-asked
returns-clause-asked g c =
    rw c.truncate.ensures.items (all_asked g.H.NodeSide.side.list g.H.NodeSide.side.may_release _ _ c.loop-index.index c.loop-index.inner c.loop-index.left.items c.loop-index.kept (omega (arith, c.len.ensures, c.loop-index-test.false)) c.loop-index.invariant)
