use Rattle.std.proofs.Common.{ap, subst, ◌∙◌}
use mathlib.Core.List.{IsPrefix}
use Rattle.hk_link_state.specs.LinkStates.{LinkValue}
use Rattle.hk_link_state.proofs.Seen.{then_prefix}
use Rattle.hk_link.proofs.parts_host.PartsHost.latest.Goals as goal

pub returns-in-Err-Memory-clause-seen : goal.returns-in-Err-Memory-clause-seen
returns-in-Err-Memory-clause-seen g c =
    let same = ap (λ (l : LinkValue _). g.H.NodeSide.side.list l.inner) (c.self-2.view_is ∙ c.keep_within.ensures) in
    then_prefix (g.H.NodeSide.side.list c.args.self.now.inner) (g.H.NodeSide.side.list c.latest.new.self) (g.H.NodeSide.side.list c.refuse_latest.new.self.inner)
    (subst (λ old. IsPrefix old (g.H.NodeSide.side.list c.latest.new.self)) same c.latest.ensures.seen) c.refuse_latest.ensures.seen
