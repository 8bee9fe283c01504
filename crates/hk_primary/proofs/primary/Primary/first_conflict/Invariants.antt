use Rattle.std.proofs.Common.{◌≡◌}
use Rattle.std.specs.FinMap as finmap
use Rattle.hk_model.specs.History.Commits.{first_conflict}
use Rattle.hk_model.specs.History.Histories.{commits}
use Rattle.hk_primary.proofs.primary.Primary.first_conflict.Given as goal

abbrev pub invariant-loop-write : goal.invariant-loop-write
invariant-loop-write l = first_conflict (commits l.self.history) l.txn.read_at (finmap.values l.txn.writes) ≡ first_conflict (commits l.self.history) l.txn.read_at l.write-iterator
