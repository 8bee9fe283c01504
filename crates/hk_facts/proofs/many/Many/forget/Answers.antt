use Rattle.std.proofs.Common.{sym, subst}
use Rattle.hk_facts.specs.Chains.{ChainValue}
use Rattle.hk_facts.specs.Turns.{IsKept}
use Rattle.hk_facts.proofs.VersionsInTurn.{forget_kept}
use Rattle.hk_facts.proofs.many.Many.forget.Goals as goal

pub invariant_of-self : goal.invariant_of-self
invariant_of-self c =
    let a = c.self.inside in
    subst (λ (m : ChainValue). IsKept m a.in_turn a.bounds) (sym c.forget.ensures) (forget_kept a.versions c.args.born c.args.part a.in_turn a.bounds c.self.invariant)
