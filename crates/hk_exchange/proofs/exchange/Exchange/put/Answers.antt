use Rattle.std.proofs.Common.{◌≡◌, ◌++◌, [], true, ap, ◌∙◌, append-nil, rules}
use Rattle.hk_exchange.specs.Pipes.{Outgoing, text_of}
use Rattle.hk_session_parts.specs.declared.ended.Ended.TheVariants.{WriteFault}
use Rattle.hk_exchange.specs.Exchanges.{ExchangeValue, value_of}
use Rattle.hk_exchange.proofs.Standing.{dropped_with, cut_front, put_so}
use Rattle.hk_exchange.proofs.exchange.Exchange.put.Goals as goal

pub returns-then-not-is_well-clause-stays : goal.returns-then-not-is_well-clause-stays
returns-then-not-is_well-clause-stays g c passes =
    let t = c.put-is_well.ensures.taken in
    let is = c.cut_short.ensures.value in
    let out = ap (λ (v : ExchangeValue). v.out) is in
    let sent = ap (λ (o : Outgoing). o.sent) c.drop_all.ensures ∙ ap (λ (o : Outgoing). o.sent) out ∙ t.3.0 in
    let none = ap (λ (o : Outgoing). o.standing) c.drop_all.ensures in
    dropped_with passes (value_of c.args.self.now) _ c.args.out.now.items _ WriteFault (ap (λ (v : ExchangeValue). v.came) is) (ap (λ (v : ExchangeValue). v.ended) is)
    (cut_front c.args.self.now.unwritten c.drop_all.new.self c.args.out.now.items t.0 t.1 t.2 sent none)

pub returns-else-not-is_well-clause-stays : goal.returns-else-not-is_well-clause-stays
returns-else-not-is_well-clause-stays g c passes =
    let well : c.put-is_well.result ≡ true = search rules in
    put_so passes (value_of c.args.self.now) c.args.out.now.items [] c.put-is_well.new.self (append-nil (text_of c.put-is_well.new.self) ∙ c.put-is_well.ensures.all well)
