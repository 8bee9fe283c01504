use Rattle.std.proofs.Common.{◌≡◌, ◌≢◌, ◌+◌, ℕ, List, [], length, drop, sym, ap, subst, ◌∙◌, rules, arith}
use Rattle.hk_exchange.specs.Exchanges.{ExchangeValue, Turns, behind_look, value_of, waiting}
use Rattle.hk_exchange.proofs.Parts.{taken_back}
use Rattle.hk_exchange.proofs.Standing.{nothing_done, rest_waits}
use Rattle.hk_exchange.proofs.exchange.Exchange.take_rest_on.Goals as goal

pub returns-then-is_empty-clause-turns : goal.returns-then-is_empty-clause-turns
returns-then-is_empty-clause-turns g c = nothing_done g.H.Host.may c.args.host.now c.args.how.passes (value_of c.args.self.now) c.args.out.now.items

pub returns-clause-turns : goal.returns-clause-turns
returns-clause-turns g c =
    let h = c.hand_on_from-step in
    let v = value_of c.args.self.now in
    let old = c.args.host.now in
    let out = c.args.out.now.items in
    let bytes = h.new.buf in
    let some : c.args.self.now.rest ≢ [] = λ none. search rules in
    let rest : drop c.into_parts-bytes.result.1 c.deref_mut.result.now ≡ c.args.self.now.rest = search rules in
    let len : c.into_parts-bytes.result.0.len ≡ length bytes = search rules in
    let left : drop c.left_from-left.result bytes ≡ c.of.result =
    ap (drop c.left_from-left.result) (sym (taken_back c.into_parts-bytes.result.0.len bytes (drop (length bytes) c.into_parts-bytes.result.0.items) len)) ∙ sym c.of.ensures in
    let u = value_of h.new.self in
    let all : length bytes ≡ c.len.result = search rules in
    let is : behind_look u h.result.1.then (drop (c.into_parts-bytes.result.1 + h.result.1.count) bytes) ≡ record u { rest = c.of.result } =
    c.left_from-left.ensures.left u bytes all ∙ ap (λ (l : List ℕ). record u { rest = l }) left in
    let turns = subst (λ (w : ExchangeValue). Turns g.H.Host.may old h.new.host c.args.how.passes (waiting v (drop c.into_parts-bytes.result.1 c.deref_mut.result.now)) out w h.new.out.items) is h.ensures.turns in
    rest_waits g.H.Host.may old h.new.host c.args.how.passes v (record u { rest = c.of.result }) out h.new.out.items c.requires.goes some
    (subst (λ (l : List ℕ). Turns g.H.Host.may old h.new.host c.args.how.passes (waiting v l) out (record u { rest = c.of.result }) h.new.out.items) rest turns)
