use Rattle.std.proofs.Common.{◌≡◌, ◌≤◌, ◌+◌, ◌++◌, List, ℕ, length, take, drop, ap, subst, ◌∙◌, rules}
use Rattle.std.proofs.Math.Seq.{take-add}
use Rattle.hk_exchange.specs.Exchanges.{ExchangeValue, Turns, value_of, waiting}
use Rattle.hk_exchange.proofs.Parts.{taken_back}
use Rattle.hk_exchange.proofs.Standing.{arrived, nothing_done}
use Rattle.hk_exchange.proofs.exchange.Exchange.read_on.Goals as goal

pub returns-in-Ok-clause-turns : goal.returns-in-Ok-clause-turns
returns-in-Ok-clause-turns g c =
    let piece = c.deref_mut-in-Ok.result.now in
    let from = c.put_begun-begun.result in
    let count = c.in-Ok.count in
    let f = c.receive_front in
    let v = value_of c.args.self.now in
    let fresh = take count (drop from piece) in
    let noted : c.note.new.self ≡ v.came ++ fresh = search rules in
    let buf = c.put_begun-begun.new.buf in
    let put_len : c.args.piece.now.len ≡ length buf = search rules in
    let read_len : c.args.piece.now.len ≡ length c.read_behind.new.piece = search rules in
    let put : c.deref_mut-2.result.now ≡ buf = c.deref_mut-2.ensures.value ∙ taken_back c.args.piece.now.len buf _ put_len in
    let read : piece ≡ c.read_behind.new.piece = c.deref_mut-in-Ok.ensures.value ∙ taken_back c.args.piece.now.len c.read_behind.new.piece _ read_len in
    let room : 36 ≤ length c.deref_mut.result.now = search rules in
    let begun : take from piece ≡ v.begun = ap (take from) read ∙ c.read_behind.ensures.begun ∙ ap (take from) put ∙ c.put_begun-begun.ensures.begun room in
    let front : take (from + count) piece ≡ v.begun ++ fresh = take-add from count piece ∙ ap (λ (l : List ℕ). l ++ fresh) begun in
    let w = record v { came = c.note.new.self } in
    let turns = subst (λ (l : List ℕ). Turns g.H.Host.may c.args.host.now f.new.host c.args.how.passes (waiting w l) c.args.out.now.items (value_of f.new.self) f.new.out.items) front f.ensures.turns in
    arrived g.H.Host.may c.args.host.now f.new.host c.args.how.passes v w (value_of f.new.self) fresh c.args.out.now.items f.new.out.items c.requires.goes c.requires.rest (ap (λ (l : List ℕ). record v { came = l }) noted) turns

pub returns-in-Err-clause-turns : goal.returns-in-Err-clause-turns
returns-in-Err-clause-turns g c = nothing_done g.H.Host.may c.args.host.now c.args.how.passes (value_of c.args.self.now) c.args.out.now.items
