use Rattle.hk_exchange.specs.Exchanges.{value_of}
use Rattle.hk_net.proofs.Connections.{by_turns, no_step, then_steps}
use Rattle.hk_net.proofs.link.Pipe.looked.Goals as goal

pub returns-then-not-looked-clause-steps : goal.returns-then-not-looked-clause-steps
returns-then-not-looked-clause-steps g c passes = no_step g.H.NodeSide.side g.H.Host.may c.args.host.now passes (value_of c.args.self.now.exchange) c.args.out.now.items

pub returns-clause-steps : goal.returns-clause-steps
returns-clause-steps g c passes =
    let ready = c.args.out.now.items in
    then_steps g.H.NodeSide.side g.H.Host.may c.args.host.now c.answer_apart.new.host c.answer.new.host passes (value_of c.args.self.now.exchange) (value_of c.answer_apart.new.self.exchange) (value_of c.answer.new.self)
    ready ready c.answer.new.out.items (c.answer_apart.ensures.steps passes ready)
    (by_turns g.H.NodeSide.side g.H.Host.may c.answer_apart.new.host c.answer.new.host passes (value_of c.answer_apart.new.self.exchange) (value_of c.answer.new.self) ready c.answer.new.out.items (c.answer.ensures.turns passes))
