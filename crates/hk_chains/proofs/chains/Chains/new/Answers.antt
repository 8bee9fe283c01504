use Rattle.std.proofs.Common.{sym, ap, subst, ◌∙◌}
use Rattle.hk_chains.specs.Facts.{ChainsValue, facts_of, AreStored}
use Rattle.hk_chains.proofs.FactsByRow.{nothing_stored, empty_facts}
use Rattle.hk_chains.proofs.chains.Chains.new.Goals as goal

pub invariant_of-result : goal.invariant_of-result
invariant_of-result c = subst (λ (m : ChainsValue). AreStored m) (sym c.new.ensures.map) nothing_stored

pub returns : goal.returns
returns c = ap facts_of c.new.ensures.map ∙ empty_facts
