use Rattle.std.proofs.Common.{refl, sym, ap, ◌∙◌, append-nil, ◌++◌, []}
use Rattle.hk_exchange.specs.Pipes.{Outgoing}
use Rattle.hk_exchange.specs.Exchanges.{ExchangeValue, value_of}
use Rattle.hk_exchange.proofs.Standing.{dropped_with, cut_front}
use Rattle.hk_exchange.proofs.exchange.Exchange.drop_all.Goals as goal

pub returns : goal.returns
returns c passes =
    let is = c.cut_short.ensures.value in
    let out = ap (λ (v : ExchangeValue). v.out) is in
    let sent = ap (λ (o : Outgoing). o.sent) c.drop_all.ensures ∙ ap (λ (o : Outgoing). o.sent) out ∙ sym (append-nil c.args.self.now.unwritten.sent) in
    let none = ap (λ (o : Outgoing). o.standing) c.drop_all.ensures in
    dropped_with passes (value_of c.args.self.now) _ [] _ c.args.ended (ap (λ (v : ExchangeValue). v.came) is) (ap (λ (v : ExchangeValue). v.ended) is)
    (cut_front c.args.self.now.unwritten c.drop_all.new.self [] [] (c.args.self.now.unwritten.standing ++ []) refl sent none)
