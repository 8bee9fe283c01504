use Rattle.hk_chains.specs.Reads.{with_facts}
use Rattle.hk_chains.proofs.ChainsAtTime.{row_found, row_missed}
use Rattle.hk_store.proofs.facts.Facts.shown_at.Goals as goal

pub returns-in-Some : goal.returns-in-Some
returns-in-Some c = row_found (with_facts c.args.self.now) (record { table = c.args.table; key = c.args.key }) c.in-Some.chain.now c.args.time _ c.in-Some.ensures.some c.at.ensures

pub returns-in-None : goal.returns-in-None
returns-in-None c = row_missed (with_facts c.args.self.now) (record { table = c.args.table; key = c.args.key }) c.args.time c.in-None.ensures.none
