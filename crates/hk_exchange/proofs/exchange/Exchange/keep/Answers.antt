use Rattle.std.proofs.Common.{ap}
use Rattle.hk_session_parts.specs.declared.ended.Ended.TheVariants.{Memory}
use Rattle.hk_exchange.specs.Exchanges.{ExchangeValue, value_of}
use Rattle.hk_exchange.proofs.Standing.{over_behind}
use Rattle.hk_exchange.proofs.exchange.Exchange.keep.Goals as goal

pub returns : goal.returns
returns c passes ready =
    let is = c.cut.ensures.value in
    over_behind passes (value_of c.args.self.now) (value_of c.cut.new.self) c.args.then c.args.left.now ready Memory
    (ap (λ (v : ExchangeValue). v.came) is) (ap (λ (v : ExchangeValue). v.out) is) (ap (λ (v : ExchangeValue). v.ended) is)
