use borrow.Rule.Slice.PartMut.{put_mid}
use Rattle.std.proofs.Common.{◌+◌, ◌-◌, List, ℕ, length, take, drop, sym, subst}
use Rattle.std.proofs.lemmas.List.{take_rest}
use Rattle.hk_exchange.specs.Exchanges.{Turns, behind_look, value_of, waiting}
use Rattle.hk_exchange.proofs.Parts.{tail_drop}
use Rattle.hk_exchange.proofs.exchange.Exchange.hand_on_from.Goals as goal

pub returns-clause-turns : goal.returns-clause-turns
returns-clause-turns g c =
    let bytes = c.args.buf.now in
    let from = c.args.at in
    let h = c.hand_on in
    let after = behind_look (value_of h.new.self) h.result.1.then in
    let part = subst (λ (rest : List ℕ). Turns g.H.Host.may c.args.host.now h.new.host c.args.how.passes (waiting (value_of c.args.self.now) (take (length bytes - from) (drop from bytes))) c.args.out.now.items (after rest) h.new.out.items)
    (sym (tail_drop from h.result.1.count bytes h.new.came c.requires.inside)) h.ensures.turns in
    subst (λ (came : List ℕ). Turns g.H.Host.may c.args.host.now h.new.host c.args.how.passes (waiting (value_of c.args.self.now) came) c.args.out.now.items
    (after (drop (from + h.result.1.count) (put_mid from (length bytes - from) bytes h.new.came))) h.new.out.items) (take_rest bytes from) part
