use Rattle.hk_store.proofs.facts.Facts.chain.Goals as goal

pub returns-clause-none : goal.returns-clause-none
returns-clause-none c = rw (← c.self.view_is) c.chain.ensures.none
