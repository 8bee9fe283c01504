use Rattle.std.proofs.Common.{sym, ap, subst}
use Rattle.std.specs.FinMap as finmap
use Rattle.hk_model.specs.History.Rows.{row_key_cmp}
use Rattle.hk_primary.specs.Txns.{AreWrites}
use Rattle.hk_primary.proofs.OneMoreWrite.{no_write}
use Rattle.hk_primary.proofs.txn.Txn.at.Goals as goal

pub invariant_of-result : goal.invariant_of-result
invariant_of-result c = subst (λ es. AreWrites (finmap.from_entries {R = row_key_cmp} es)) (sym c.new.ensures.empty) no_write
