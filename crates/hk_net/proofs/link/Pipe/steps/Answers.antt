use Rattle.hk_exchange.specs.Exchanges.{value_of}
use Rattle.hk_net.proofs.Connections.{no_step, put_out}
use Rattle.hk_net.proofs.link.Pipe.steps.Goals as goal

pub loop-init : goal.loop-init
loop-init g c = (c.requires.ready, c.requires.empty, no_step g.H.NodeSide.side g.H.Host.may c.args.host.now c.args.moment.passes (value_of c.args.self.now.exchange) c.args.out.now.items)

pub returns-then-has_ended-clause-steps : goal.returns-then-has_ended-clause-steps
returns-then-has_ended-clause-steps g c =
    put_out g.H.NodeSide.side g.H.Host.may c.args.host.now c.loop.host c.step-step.new.host c.args.moment.passes (value_of c.args.self.now.exchange) c.loop.self.exchange c.step-step.new.self.exchange
    c.note_step-turn.new.self.exchange c.put.new.self.exchange c.args.out.now.items c.loop.out.items c.step-step.new.out.items c.put.new.out.items
    c.loop.invariant.2 c.step-step.ensures.steps c.note_step-turn.ensures (c.put.ensures.stays c.args.moment.passes) c.put.ensures.empty

pub returns-in-Some-clause-steps : goal.returns-in-Some-clause-steps
returns-in-Some-clause-steps g c =
    put_out g.H.NodeSide.side g.H.Host.may c.args.host.now c.loop.host c.step-step.new.host c.args.moment.passes (value_of c.args.self.now.exchange) c.loop.self.exchange c.step-step.new.self.exchange
    c.note_step-turn.new.self.exchange c.put.new.self.exchange c.args.out.now.items c.loop.out.items c.step-step.new.out.items c.put.new.out.items
    c.loop.invariant.2 c.step-step.ensures.steps c.note_step-turn.ensures (c.put.ensures.stays c.args.moment.passes) c.put.ensures.empty

pub returns-then-lets_others-clause-steps : goal.returns-then-lets_others-clause-steps
returns-then-lets_others-clause-steps g c =
    put_out g.H.NodeSide.side g.H.Host.may c.args.host.now c.loop.host c.step-step.new.host c.args.moment.passes (value_of c.args.self.now.exchange) c.loop.self.exchange c.step-step.new.self.exchange
    c.note_step-turn.new.self.exchange c.put.new.self.exchange c.args.out.now.items c.loop.out.items c.step-step.new.out.items c.put.new.out.items
    c.loop.invariant.2 c.step-step.ensures.steps c.note_step-turn.ensures (c.put.ensures.stays c.args.moment.passes) c.put.ensures.empty

pub loop-preserved : goal.loop-preserved
loop-preserved g c = (
  c.step-step.ensures.ready,
  c.put.ensures.empty,
  put_out g.H.NodeSide.side g.H.Host.may c.args.host.now c.loop.host c.step-step.new.host c.args.moment.passes (value_of c.args.self.now.exchange) c.loop.self.exchange c.step-step.new.self.exchange
      c.note_step-turn.new.self.exchange c.put.new.self.exchange c.args.out.now.items c.loop.out.items c.step-step.new.out.items c.put.new.out.items
      c.loop.invariant.2 c.step-step.ensures.steps c.note_step-turn.ensures (c.put.ensures.stays c.args.moment.passes) c.put.ensures.empty,
)
