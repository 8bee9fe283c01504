use Rattle.std.proofs.Common.{rules}
use Rattle.hk_primary.proofs.HistoryOfLog.{honest}
use Rattle.hk_primary.proofs.primary.Primary.readable.Goals as goal

pub returns-then-is_over-clause-honest : goal.returns-then-is_over-clause-honest
returns-then-is_over-clause-honest c = rw (← c.self.view_is) (honest c.self.inside.config c.self.inside.after c.self.inside.log.items c.self.invariant.logged)

pub returns-else-is_over-clause-honest : goal.returns-else-is_over-clause-honest
returns-else-is_over-clause-honest c = rw (← c.self.view_is) (honest c.self.inside.config c.self.inside.after c.self.inside.log.items c.self.invariant.logged)

pub returns-then-is_over-clause-value : goal.returns-then-is_over-clause-value
returns-then-is_over-clause-value c = search rules
