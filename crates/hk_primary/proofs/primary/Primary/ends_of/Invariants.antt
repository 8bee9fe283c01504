use Rattle.std.proofs.Common.{◌≡◌, ◌++◌}
use Rattle.std.specs.FinMap as finmap
use Rattle.hk_model.specs.History.Histories.{commits}
use Rattle.hk_primary.specs.Looks.{ended_by_all}
use Rattle.hk_primary.proofs.primary.Primary.ends_of.Given as goal

abbrev pub invariant-loop-write : goal.invariant-loop-write
invariant-loop-write l = l.ends.items ++ ended_by_all (commits l.self.history) l.write-iterator ≡ ended_by_all (commits l.self.history) (finmap.values l.txn.writes)
