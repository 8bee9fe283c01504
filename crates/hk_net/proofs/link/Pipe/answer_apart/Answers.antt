use Rattle.hk_exchange.specs.Exchanges.{value_of}
use Rattle.hk_net.proofs.Connections.{host_goes, no_step, told_step}
use Rattle.hk_net.proofs.link.Pipe.answer_apart.Goals as goal

pub returns-in_default-clause-steps : goal.returns-in_default-clause-steps
returns-in_default-clause-steps g c passes ready = no_step g.H.NodeSide.side g.H.Host.may c.args.host.now passes (value_of c.args.self.now.exchange) ready

pub returns-in_default-answer_briefly-clause-steps : goal.returns-in_default-answer_briefly-clause-steps
returns-in_default-answer_briefly-clause-steps g c passes ready =
    host_goes g.H.NodeSide.side g.H.Host.may c.args.host.now c.answer_briefly.new.self passes (value_of c.args.self.now.exchange) ready
    (c.answer_briefly.ensures.seen, c.in_default-answer_briefly.ensures.kept)

pub returns-clause-steps : goal.returns-clause-steps
returns-clause-steps g c passes ready =
    told_step g.H.NodeSide.side g.H.Host.may c.args.host.now c.answer_briefly.new.self passes (value_of c.args.self.now.exchange) (value_of c.put_reply-back.new.self) ready
    c.in-Some.request.now c.in-Some-answer_briefly.reply c.in-Some-answer_briefly.ensures.told c.in-Some.ensures c.put_reply-back.ensures.told
