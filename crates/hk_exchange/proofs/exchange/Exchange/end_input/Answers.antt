use Rattle.std.proofs.Common.{refl, sym, ap, subst, ◌∙◌, List, ℕ, Option, None, Some, false}
use Rattle.hk_session_parts.specs.Sessions.{Closes, IsResting, SessionValue, Takes}
use Rattle.hk_session_parts.specs.Transcript.{fault_of}
use Rattle.hk_session_parts.specs.declared.step.Step.{Step}
use Rattle.hk_exchange.specs.Exchanges.{ExchangeValue, Turns, end_of, value_of}
use Rattle.hk_exchange.proofs.Standing.{ended_input, finished, rests}
use Rattle.hk_exchange.proofs.exchange.Exchange.end_input.Goals as goal

pub returns-in_default : goal.returns-in_default
returns-in_default g c = record {
  ready = c.take-step.ensures.ready;
  turns = λ passes.
      let t = c.take-step in
      let takes = subst (λ (piece : List ℕ). Takes 2 g.H.Host.may c.args.host.now t.new.host c.args.self.now.session t.new.self piece false c.args.out.now.items t.new.out.items t.result) c.requires.begun t.ensures.takes in
      subst (λ (w : ExchangeValue). Turns g.H.Host.may c.args.host.now t.new.host passes (value_of c.args.self.now) c.args.out.now.items w t.new.out.items) (sym c.noted-step.ensures.noted)
      (ended_input g.H.Host.may c.args.host.now t.new.host passes (value_of c.args.self.now) c.new-self.result.place c.new-self.result.begun c.args.out.now.items t.new.out.items t.new.self t.result c.requires.goes c.new-self.ensures.begun takes);
}

pub returns-clause-turns : goal.returns-clause-turns
returns-clause-turns g c passes =
    let t = c.take-step in
    let before = value_of c.args.self.now in
    let after = value_of c.noted-step.new.self in
    let takes = subst (λ (piece : List ℕ). Takes 2 g.H.Host.may c.args.host.now t.new.host c.args.self.now.session t.new.self piece false c.args.out.now.items t.new.out.items t.result) c.requires.begun t.ensures.takes in
    let turns = subst (λ (w : ExchangeValue). Turns g.H.Host.may c.args.host.now t.new.host passes before c.args.out.now.items w t.new.out.items) (sym c.noted-step.ensures.noted)
    (ended_input g.H.Host.may c.args.host.now t.new.host passes before c.new-self.result.place c.new-self.result.begun c.args.out.now.items t.new.out.items t.new.self t.result c.requires.goes c.new-self.ensures.begun takes) in
    let goes = sym c.noted-step.ensures.same ∙ c.in-GoesOn.is in
    let session = ap (λ (v : ExchangeValue). v.session) c.noted-step.ensures.noted in
    let resting = rests g.H.Host.may c.args.host.now t.new.host c.args.self.now.session t.new.self c.args.self.now.watch.begun c.args.out.now.items t.new.out.items false t.result goes takes in
    let none = ap (λ (v : ExchangeValue). v.ended) c.noted-step.ensures.noted ∙ ap end_of goes in
    let begun = ap (λ (v : ExchangeValue). v.begun) c.noted-step.ensures.noted ∙ c.new-self.ensures.begun in
    let rest = ap (λ (v : ExchangeValue). v.rest) c.noted-step.ensures.noted ∙ c.requires.rest in
    let closes = subst (λ (s : SessionValue). Closes (fault_of s.left) t.new.out.items c.finish-ended.new.out.items c.finish-ended.result) c.replace.ensures.value c.finish-ended.ensures in
    finished g.H.Host.may c.args.host.now t.new.host passes before after c.args.out.now.items t.new.out.items c.finish-ended.new.out.items c.finish-ended.result c.replace.new.dest turns none begun rest (subst IsResting (sym session) resting) closes
