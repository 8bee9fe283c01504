use Rattle.std.proofs.Common.{◌≡◌, ◌∙◌, arith, sym, ap, subst, length, set, ◌-◌}
use Rattle.std.proofs.lemmas.Grind.{common_steps}
use Rattle.hk_model.specs.Replica.Lawful.{IsLawfulStream}
use Rattle.hk_model.specs.Replica.Streams.{stream_at}
use Rattle.hk_marks.specs.Steps.{with_mark}
use Rattle.hk_marks.proofs.GotRules.{AreStreams-set, with_mark_lawful}
use Rattle.hk_marks.proofs.Limits.{with_mark_numbered}
use Rattle.hk_marks.specs.Seen.{IsNumbered}
use Rattle.hk_marks.proofs.TakenItems.{closed_told}
use Rattle.hk_marks.proofs.got.Got.add_mark.Goals as goal

pub invariant_of-self-2 : goal.invariant_of-self-2
invariant_of-self-2 c = AreStreams-set _ _ _ c.self.invariant (subst IsLawfulStream (sym c.in_ok-add_mark.ensures.ok) (with_mark_lawful c.index_mut.result.now c.args.n c.args.m)) (subst IsNumbered (sym c.in_ok-add_mark.ensures.ok) (with_mark_numbered c.index_mut.result.now c.args.n c.args.m (subst IsNumbered (sym c.index_mut.ensures.value) (c.self.invariant.numbered c.place.result c.index_mut.result.now (omega (arith, ap length c.self.view_is)))) (omega arith) (omega arith)))

pub returns-clause-mark : goal.returns-clause-mark
returns-clause-mark c = λ mark is same alike.
    let here : set c.self.inside.streams.items c.place.result c.add_mark.new.self ≡ set c.self.inside.streams.items (c.args.s - 1) (with_mark (stream_at c.self.inside.streams.items c.args.s) c.args.n c.args.m) = grind (arith, common_steps) in
    rw (← c.self.view_is) (here ∙ closed_told _ _ _ _ c.self.invariant.lawful (omega arith) (omega (arith, ap length c.self.view_is)) mark is same alike)
