use Rattle.std.proofs.Common.{sym, ap, ◌∙◌}
use Rattle.hk_primary.proofs.StoredWrites.{values_seen}
use Rattle.hk_primary.proofs.txn.Txn.writes.Goals as goal

pub returns-clause-value : goal.returns-clause-value
returns-clause-value c = rw (← c.self.view_is) (c.values.ensures.rest ∙ values_seen c.self.inside.writes c.values.ensures.ordered)
