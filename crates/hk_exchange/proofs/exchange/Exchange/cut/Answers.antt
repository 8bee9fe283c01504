use Rattle.std.proofs.Common.{Some, refl, rules}
use Rattle.hk_exchange.specs.Exchanges.{ExchangeValue, value_of}
use Rattle.hk_exchange.proofs.Standing.{over_with}
use Rattle.hk_exchange.proofs.exchange.Exchange.cut.Goals as goal

pub returns-then-is_none-clause-stays : goal.returns-then-is_none-clause-stays
returns-then-is_none-clause-stays c passes ready =
    over_with passes (value_of c.args.self.now) (record (value_of c.args.self.now) { ended = Some c.cut_by.result }) ready c.args.ended refl refl (search rules)
