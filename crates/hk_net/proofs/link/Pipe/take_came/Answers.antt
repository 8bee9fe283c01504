use Rattle.std.proofs.Common.{sym, subst, ◌∙◌}
use Rattle.hk_exchange.specs.declared.exchange.Exchange.{Exchange}
use Rattle.hk_exchange.specs.Exchanges.{value_of}
use Rattle.hk_net.specs.Connections.{Steps}
use Rattle.hk_net.proofs.Connections.{no_step, stays_step}
use Rattle.hk_net.proofs.link.Pipe.take_came.Goals as goal

pub returns-in-Bytes-clause-steps : goal.returns-in-Bytes-clause-steps
returns-in-Bytes-clause-steps g c passes =
    let out = c.args.out.now.items in
    subst (λ (e : Exchange). Steps g.H.NodeSide.side g.H.Host.may c.args.host.now c.looked-step.new.host passes (value_of e) out (value_of c.note_frame.new.self.exchange) c.looked-step.new.out.items) (c.note_first.ensures ∙ c.note_came.ensures)
    (subst (λ (e : Exchange). Steps g.H.NodeSide.side g.H.Host.may c.args.host.now c.looked-step.new.host passes (value_of c.note_first.new.self.exchange) out (value_of e) c.looked-step.new.out.items) (sym c.note_frame.ensures) (c.looked-step.ensures.steps passes))

pub returns-in-Nothing-clause-steps : goal.returns-in-Nothing-clause-steps
returns-in-Nothing-clause-steps g c passes = no_step g.H.NodeSide.side g.H.Host.may c.args.host.now passes (value_of c.args.self.now.exchange) c.args.out.now.items

pub returns-in-Again-clause-steps : goal.returns-in-Again-clause-steps
returns-in-Again-clause-steps g c passes = no_step g.H.NodeSide.side g.H.Host.may c.args.host.now passes (value_of c.args.self.now.exchange) c.args.out.now.items

pub returns-in-End-clause-steps : goal.returns-in-End-clause-steps
returns-in-End-clause-steps g c passes = no_step g.H.NodeSide.side g.H.Host.may c.args.host.now passes (value_of c.args.self.now.exchange) c.args.out.now.items

pub returns-in-Failed-clause-steps : goal.returns-in-Failed-clause-steps
returns-in-Failed-clause-steps g c passes =
    let out = c.args.out.now.items in
    stays_step g.H.NodeSide.side g.H.Host.may c.args.host.now c.args.host.now passes (value_of c.args.self.now.exchange) (value_of c.cut.new.self) (value_of c.cut.new.self) out out out
    (c.cut.ensures.stays passes out) (no_step g.H.NodeSide.side g.H.Host.may c.args.host.now passes (value_of c.cut.new.self) out)
