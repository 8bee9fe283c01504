use Rattle.std.proofs.Common.{sym, subst}
use Rattle.hk_exchange.specs.Exchanges.{ExchangeValue, Turns, value_of}
use Rattle.hk_exchange.proofs.Standing.{answered}
use Rattle.hk_exchange.proofs.exchange.Exchange.answer_on.Goals as goal

pub returns-clause-turns : goal.returns-clause-turns
returns-clause-turns g c passes =
    subst (λ (w : ExchangeValue). Turns g.H.Host.may c.args.host.now c.take-step.new.host passes (value_of c.args.self.now) c.args.out.now.items w c.take-step.new.out.items) (sym c.noted.ensures.noted)
    (answered g.H.Host.may c.args.host.now c.take-step.new.host passes (value_of c.args.self.now) c.args.out.now.items c.take-step.new.out.items c.args.has_waited c.take-step.new.self c.take-step.result c.requires.goes c.take-step.ensures.takes)
