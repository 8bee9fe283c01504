use Rattle.std.proofs.Common.{List, ℕ, length, take, drop, ◌-◌, ap, subst, ◌∙◌}
use Rattle.std.proofs.lemmas.List.{take_rest}
use Rattle.hk_exchange.specs.declared.exchange.Exchange.{Exchange}
use Rattle.hk_session_parts.specs.declared.ended.Ended.TheVariants.{ReadFault}
use Rattle.hk_exchange.specs.Exchanges.{ExchangeValue, Stays, Turns, after_cut, behind_look, value_of, waiting}
use Rattle.hk_exchange.proofs.Standing.{nothing_done, over_with, then_stays}
use Rattle.hk_exchange.proofs.exchange.Exchange.receive.Goals as goal

pub returns-then-reads_too_often-clause-turns : goal.returns-then-reads_too_often-clause-turns
returns-then-reads_too_often-clause-turns g c =
    let passes = c.args.how.passes in
    let v = waiting (value_of c.args.self.now) c.args.piece.now in
    let out = c.args.out.now.items in
    let is = c.cut.ensures.value in
    let before = c.reads_too_often.ensures in
    let came = ap (λ (w : ExchangeValue). w.came) is ∙ ap (λ (e : Exchange). (value_of e).came) before in
    let sent = ap (λ (w : ExchangeValue). w.out) is ∙ ap (λ (e : Exchange). (value_of e).out) before in
    let ended = ap (λ (w : ExchangeValue). w.ended) is ∙ ap (λ (e : Exchange). after_cut (value_of e).ended ReadFault) before in
    then_stays g.H.Host.may c.args.host.now c.args.host.now passes v v (value_of c.cut.new.self) out out out (nothing_done g.H.Host.may c.args.host.now passes v out)
    (over_with passes v (value_of c.cut.new.self) out ReadFault came sent ended)

pub returns-clause-turns : goal.returns-clause-turns
returns-clause-turns g c =
    let passes = c.args.how.passes in
    let h = c.hand_on-step in
    let rest = h.new.came in
    let count = h.result.1.count in
    let after = behind_look (value_of h.new.self) h.result.1.then in
    let turns = subst (λ (e : Exchange). Turns g.H.Host.may c.args.host.now h.new.host passes (waiting (value_of e) c.args.piece.now) c.args.out.now.items (after (drop count rest)) h.new.out.items) c.reads_too_often.ensures h.ensures.turns in
    let stays = subst (λ (l : List ℕ). Stays passes (after l) h.new.out.items (value_of c.keep-step.new.self) h.new.out.items) (take_rest rest count) (c.keep-step.ensures passes h.new.out.items) in
    then_stays g.H.Host.may c.args.host.now h.new.host passes (waiting (value_of c.args.self.now) c.args.piece.now) (after (drop count rest)) (value_of c.keep-step.new.self) c.args.out.now.items h.new.out.items h.new.out.items turns stays
