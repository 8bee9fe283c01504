use Rattle.std.proofs.Common.{sym, subst, ap, arith, length}
use Rattle.hk_model.specs.Replica.Lawful.{IsLawfulStream}
use Rattle.hk_marks.proofs.GotRules.{AreStreams-set, raised_lawful}
use Rattle.hk_marks.proofs.Limits.{raised_numbered}
use Rattle.hk_marks.specs.Seen.{IsNumbered}
use Rattle.hk_marks.proofs.got.Got.raise.Goals as goal

pub invariant_of-self : goal.invariant_of-self
invariant_of-self c = AreStreams-set _ _ _ c.self.invariant (subst IsLawfulStream (sym c.raise.ensures) (raised_lawful c.index_mut.result.now c.args.prefix c.args.closed)) (subst IsNumbered (sym c.raise.ensures) (raised_numbered c.index_mut.result.now c.args.prefix c.args.closed (subst IsNumbered (sym c.index_mut.ensures.value) (c.self.invariant.numbered c.place.result c.index_mut.result.now (omega (arith, ap length c.self.view_is)))) (omega arith) (omega arith)))
