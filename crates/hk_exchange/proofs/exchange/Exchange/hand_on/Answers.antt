use Rattle.std.proofs.Common.{ap, ◌∙◌}
use Rattle.hk_exchange.specs.declared.exchange.Exchange.{Exchange}
use Rattle.hk_exchange.specs.Exchanges.{end_of, value_of}
use Rattle.hk_exchange.proofs.Standing.{handed_look}
use Rattle.hk_exchange.proofs.exchange.Exchange.hand_on.Goals as goal

pub returns-clause-turns : goal.returns-clause-turns
returns-clause-turns g c =
    let t = c.take-taken in
    let p = c.take_piece-step in
    let is = c.noted.ensures.noted ∙ ap (λ (e : Exchange). record (value_of e) { ended = end_of p.result }) p.ensures.same in
    handed_look g.H.Host.may c.args.host.now p.new.host c.args.how.passes (value_of c.args.self.now) (value_of c.noted.new.self) t.new.self.place t.new.self.begun c.args.came.now t.new.bytes
    c.args.out.now.items p.new.out.items t.result.count t.result.then p.new.self.session p.result
    c.requires.goes.1 c.requires.goes.0 t.ensures.gets t.ensures.rest t.ensures.held t.ensures.left p.ensures.takes is
