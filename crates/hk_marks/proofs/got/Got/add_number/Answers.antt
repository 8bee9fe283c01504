use Rattle.std.proofs.Common.{◌≡◌, ◌∙◌, arith, sym, ap, subst, length, set, ◌-◌}
use Rattle.std.proofs.lemmas.Grind.{common_steps}
use Rattle.hk_model.specs.Replica.Lawful.{IsLawfulStream}
use Rattle.hk_model.specs.Replica.Streams.{stream_at}
use Rattle.hk_marks.specs.Steps.{with_number}
use Rattle.hk_marks.proofs.GotRules.{AreStreams-set, with_number_lawful}
use Rattle.hk_marks.proofs.Limits.{with_number_numbered}
use Rattle.hk_marks.specs.Seen.{IsNumbered}
use Rattle.hk_marks.proofs.TakenItems.{entry_told}
use Rattle.hk_marks.proofs.got.Got.add_number.Goals as goal

pub invariant_of-self-2 : goal.invariant_of-self-2
invariant_of-self-2 c = AreStreams-set _ _ _ c.self.invariant (subst IsLawfulStream (sym c.in_ok-add_number.ensures.ok) (with_number_lawful c.index_mut.result.now c.args.number)) (subst IsNumbered (sym c.in_ok-add_number.ensures.ok) (with_number_numbered c.index_mut.result.now c.args.number (subst IsNumbered (sym c.index_mut.ensures.value) (c.self.invariant.numbered c.place.result c.index_mut.result.now (omega (arith, ap length c.self.view_is)))) (omega arith) (omega arith)))

pub returns-clause-entry : goal.returns-clause-entry
returns-clause-entry c = λ e is same.
    let here : set c.self.inside.streams.items c.place.result c.add_number.new.self ≡ set c.self.inside.streams.items (c.args.s - 1) (with_number (stream_at c.self.inside.streams.items c.args.s) c.args.number) = grind (arith, common_steps) in
    rw (← c.self.view_is) (here ∙ entry_told _ _ _ c.self.invariant.lawful (omega arith) (omega (arith, ap length c.self.view_is)) e is same)
