use Rattle.std.proofs.Common.{◌-◌, length}
use Rattle.hk_link_state.proofs.LettingGo.{IsLettingGo}
use Rattle.hk_link_state.proofs.link_holds.release_each.Given as goal

abbrev pub invariant-loop-index : goal.invariant-loop-index
invariant-loop-index g l = IsLettingGo g.H.NodeSide.side.list g.H.NodeSide.side.may_release l.fn.inner l.fn.holds.items l.index l.inner l.left.items l.kept

abbrev pub decreases-loop-index : goal.decreases-loop-index
decreases-loop-index g l = length l.left.items - l.index
