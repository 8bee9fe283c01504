use Rattle.hk_exchange.specs.Exchanges.{value_of}
use Rattle.hk_exchange.proofs.Standing.{told_next}
use Rattle.hk_exchange.proofs.exchange.Exchange.put_reply.Goals as goal

pub returns-clause-told : goal.returns-clause-told
returns-clause-told c = told_next (value_of c.args.self.now) c.put_reply.new.self c.args.reply c.put_reply.ensures.answers
