use Rattle.hk_chains.proofs.FactsByRow.{chain_some, chain_none, chain_filled}
use Rattle.hk_chains.proofs.chains.Chains.chain.Goals as goal

pub returns-clause-some : goal.returns-clause-some
returns-clause-some c =
    let value = rw c.new.ensures at c.get.ensures in
    rw (← c.self.view_is) (chain_some c.self.inside.chains c.self.invariant _ c.get.result value)

pub returns-clause-none : goal.returns-clause-none
returns-clause-none c =
    let value = rw c.new.ensures at c.get.ensures in
    rw (← c.self.view_is) (chain_none c.self.inside.chains c.self.invariant _ c.get.result value)

pub returns-clause-filled : goal.returns-clause-filled
returns-clause-filled c = chain_filled c.self.inside.chains c.self.invariant _ c.get.result c.get.ensures
