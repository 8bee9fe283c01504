use Rattle.std.proofs.Common.{[], Some, sym, ap, subst, refl, ◌∙◌, append-nil}
use mathlib.Core.List.{IsPrefix}
use Rattle.hk_exchange.specs.declared.exchange.Exchange.{Exchange}
use Rattle.hk_exchange.specs.Exchanges.{Stays, value_of}
use Rattle.hk_link_state.specs.LinkStates.{LinkValue, link_of}
use Rattle.hk_net.specs.declared.link.Link.{Link}
use Rattle.hk_net.specs.Connections.{KeptBeside, own_at}
use Rattle.hk_net.proofs.Connections.{idle, keeps_beside, keeps_none, lived, stays_then, steps_at, steps_within}
use Rattle.hk_net.proofs.link.Link.turn.Goals as goal

pub returns-in_default-clause-turn : goal.returns-in_default-clause-turn
returns-in_default-clause-turn g c seen shown =
    let passes = c.args.moment.passes in
    let same = c.linger.ensures ∙ ap (λ (l : Link). l.pipe.exchange) c.take_kept.ensures.same in
    idle g.H.NodeSide.side g.H.Host.may passes c.args.host c.args.host c.args.self.now (record c.take_kept.new.self { pipe = c.linger.new.self }) seen c.in_default.ensures.none
    (subst (λ (e : Exchange). Stays passes (value_of c.args.self.now.pipe.exchange) [] (value_of e) []) (sym same) (c.write.ensures passes []))
    ([], append-nil (g.H.NodeSide.side.list c.args.host)) shown

pub returns-then-not-lives-clause-turn : goal.returns-then-not-lives-clause-turn
returns-then-not-lives-clause-turn g c seen shown =
    let passes = c.args.moment.passes in
    let end = c.end_session in
    idle g.H.NodeSide.side g.H.Host.may passes c.args.host end.result.1 c.args.self.now end.new.self seen end.ensures.over
    (stays_then passes (value_of c.args.self.now.pipe.exchange) (value_of c.take_kept.new.self.pipe.exchange) (value_of end.new.self.pipe.exchange) [] [] []
    (subst (λ (l : Link). Stays passes (value_of c.args.self.now.pipe.exchange) [] (value_of l.pipe.exchange) []) (sym c.take_kept.ensures.same) (c.write.ensures passes []))
    (end.ensures.stays passes))
    end.ensures.seen shown

pub returns-then-has_ended-2-clause-turn : goal.returns-then-has_ended-2-clause-turn
returns-then-has_ended-2-clause-turn g c seen shown =
    let passes = c.args.moment.passes in
    let end = c.end_session-then-has_ended-2 in
    let host = c.steps-turn.new.host in
    lived g.H.NodeSide.side g.H.Host.may passes c.args.host end.result.1 c.args.self.now end.new.self c.in-Some.kept host seen
    (ap (λ s. own_at s c.args.self.now.kept) (ap (λ (l : Link). l.stage) (sym c.take_kept.ensures.same) ∙ c.if-not-lives.ensures refl) ∙ c.in-Some.ensures.kept)
    (steps_within g.H.NodeSide.side g.H.Host.may (link_of c.args.host c.in-Some.kept) host passes (value_of c.args.self.now.pipe.exchange) (value_of c.take_kept.new.self.pipe.exchange)
    (value_of c.steps-turn.new.self.exchange) (value_of end.new.self.pipe.exchange)
    (subst (λ (l : Link). Stays passes (value_of c.args.self.now.pipe.exchange) [] (value_of l.pipe.exchange) []) (sym c.take_kept.ensures.same) (c.write.ensures passes []))
    (steps_at g.H.NodeSide.side g.H.Host.may c.new-both.result (link_of c.args.host c.in-Some.kept) host passes (value_of c.take_kept.new.self.pipe.exchange) (value_of c.steps-turn.new.self.exchange)
    c.args.out.now.items c.steps-turn.new.out.items c.new-both.ensures c.requires.empty c.steps-turn.ensures.empty c.steps-turn.ensures.steps)
    (end.ensures.stays passes))
    (subst (λ h. IsPrefix (g.H.NodeSide.side.list h) (g.H.NodeSide.side.list end.result.1)) (sym (ap (λ (l : LinkValue g.row.H.Denot). l.inner) c.into_parts-host.ensures)) end.ensures.seen)
    (keeps_none g.H.NodeSide.side g.H.Host.may end.new.self host end.ensures.over) shown

pub returns-clause-turn : goal.returns-clause-turn
returns-clause-turn g c seen shown =
    let passes = c.args.moment.passes in
    let host = c.steps-turn.new.host in
    let after = c.reserve_much.new.self in
    lived g.H.NodeSide.side g.H.Host.may passes c.args.host c.into_parts-host.result.0 c.args.self.now after c.in-Some.kept host seen
    (ap (λ s. own_at s c.args.self.now.kept) (ap (λ (l : Link). l.stage) (sym c.take_kept.ensures.same) ∙ c.if-not-lives.ensures refl) ∙ c.in-Some.ensures.kept)
    (steps_within g.H.NodeSide.side g.H.Host.may (link_of c.args.host c.in-Some.kept) host passes (value_of c.args.self.now.pipe.exchange) (value_of c.take_kept.new.self.pipe.exchange)
    (value_of c.steps-turn.new.self.exchange) (value_of after.pipe.exchange)
    (subst (λ (l : Link). Stays passes (value_of c.args.self.now.pipe.exchange) [] (value_of l.pipe.exchange) []) (sym c.take_kept.ensures.same) (c.write.ensures passes []))
    (steps_at g.H.NodeSide.side g.H.Host.may c.new-both.result (link_of c.args.host c.in-Some.kept) host passes (value_of c.take_kept.new.self.pipe.exchange) (value_of c.steps-turn.new.self.exchange)
    c.args.out.now.items c.steps-turn.new.out.items c.new-both.ensures c.requires.empty c.steps-turn.ensures.empty c.steps-turn.ensures.steps)
    (subst (λ (l : Link). Stays passes (value_of l.pipe.exchange) [] (value_of after.pipe.exchange) []) c.keep.ensures (c.reserve_much.ensures.stays passes)))
    (subst (λ h. IsPrefix (g.H.NodeSide.side.list host.inner) (g.H.NodeSide.side.list h)) (ap (λ (l : LinkValue g.row.H.Denot). l.inner) c.into_parts-host.ensures) ([], append-nil (g.H.NodeSide.side.list host.inner)))
    (keeps_beside g.H.NodeSide.side g.H.Host.may after host c.into_parts-host.result.1
    (c.into_parts-host.ensures ∙ ap (λ h. link_of h c.into_parts-host.result.1) (sym (ap (λ (l : LinkValue g.row.H.Denot). l.inner) c.into_parts-host.ensures)))
    (subst (λ (l : Link). KeptBeside l.kept after.kept) c.keep.ensures c.reserve_much.ensures.kept)) shown
