use Rattle.std.proofs.Common.{ap, subst}
use mathlib.Core.List.{IsPrefix}
use Rattle.hk_link_state.specs.LinkStates.{LinkValue}
use Rattle.hk_link_state.proofs.Seen.{then_prefix}
use Rattle.hk_link.proofs.parts_host.PartsHost.refuse_latest.Goals as goal

pub returns-clause-seen : goal.returns-clause-seen
returns-clause-seen g c =
    let same = ap (λ (l : LinkValue _). g.H.NodeSide.side.list l.inner) c.self.view_is in
    subst (λ old. IsPrefix old (g.H.NodeSide.side.list c.marks.new.self)) same
    (then_prefix (g.H.NodeSide.side.list c.self.inside.inner) (g.H.NodeSide.side.list c.is_limited-is_limited.new.inner) (g.H.NodeSide.side.list c.marks.new.self) c.is_limited-is_limited.ensures.seen c.marks.ensures.seen)
