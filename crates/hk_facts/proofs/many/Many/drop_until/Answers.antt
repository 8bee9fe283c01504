use Rattle.std.proofs.Common.{sym, subst}
use Rattle.hk_facts.specs.Chains.{ChainValue}
use Rattle.hk_facts.specs.Turns.{IsKept}
use Rattle.hk_facts.proofs.VersionsInTurn.{until_kept}
use Rattle.hk_facts.proofs.many.Many.drop_until.Goals as goal

pub invariant_of-self : goal.invariant_of-self
invariant_of-self c =
    let a = c.self.inside in
    subst (λ (m : ChainValue). IsKept m a.in_turn a.bounds) (sym c.drop_until.ensures) (until_kept a.versions c.args.until a.in_turn a.bounds c.self.invariant)
