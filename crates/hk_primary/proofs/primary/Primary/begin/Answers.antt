use Rattle.hk_primary.proofs.HistoryOfLog.{honest}
use Rattle.hk_primary.proofs.primary.Primary.begin.Goals as goal

pub returns-clause-honest : goal.returns-clause-honest
returns-clause-honest c = rw (← c.self.view_is) (honest c.self.inside.config c.self.inside.after c.self.inside.log.items c.self.invariant.logged)
