use Rattle.hk_exchange.specs.Exchanges.{value_of}
use Rattle.hk_net.proofs.Connections.{by_turns, by_turns_at, no_step, then_steps}
use Rattle.hk_net.proofs.link.Pipe.step.Goals as goal

pub returns-then-self-clause-steps : goal.returns-then-self-clause-steps
returns-then-self-clause-steps g c =
    by_turns g.H.NodeSide.side g.H.Host.may c.args.host.now c.answer.new.host c.args.moment.passes (value_of c.args.self.now.exchange) (value_of c.answer.new.self) c.args.out.now.items c.answer.new.out.items
    (c.answer.ensures.turns c.args.moment.passes)

pub returns-then-has_rest-clause-steps : goal.returns-then-has_rest-clause-steps
returns-then-has_rest-clause-steps g c =
    let passes = c.args.moment.passes in
    let t = c.take_rest-looked in
    then_steps g.H.NodeSide.side g.H.Host.may c.args.host.now t.new.host c.looked.new.host passes (value_of c.args.self.now.exchange) (value_of t.new.self) (value_of c.looked.new.self.exchange)
    c.args.out.now.items t.new.out.items c.looked.new.out.items
    (by_turns_at g.H.NodeSide.side g.H.Host.may c.args.host.now t.new.host c.how.result.passes passes (value_of c.args.self.now.exchange) (value_of t.new.self) c.args.out.now.items t.new.out.items c.how.ensures t.ensures.turns)
    (c.looked.ensures.steps passes)

pub returns-then-not-self-clause-steps : goal.returns-then-not-self-clause-steps
returns-then-not-self-clause-steps g c = no_step g.H.NodeSide.side g.H.Host.may c.args.host.now c.args.moment.passes (value_of c.args.self.now.exchange) c.args.out.now.items

pub returns-clause-steps : goal.returns-clause-steps
returns-clause-steps g c =
    let passes = c.args.moment.passes in
    let r = c.read-came in
    then_steps g.H.NodeSide.side g.H.Host.may c.args.host.now r.new.host c.take_came.new.host passes (value_of c.args.self.now.exchange) (value_of r.new.self) (value_of c.take_came.new.self.exchange)
    c.args.out.now.items r.new.out.items c.take_came.new.out.items
    (by_turns_at g.H.NodeSide.side g.H.Host.may c.args.host.now r.new.host c.how-how.result.passes passes (value_of c.args.self.now.exchange) (value_of r.new.self) c.args.out.now.items r.new.out.items c.how-how.ensures r.ensures.turns)
    (c.take_came.ensures.steps passes)
