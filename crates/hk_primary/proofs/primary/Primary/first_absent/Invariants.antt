use Rattle.std.proofs.Common.{◌≡◌}
use Rattle.std.specs.FinMap as finmap
use Rattle.hk_model.specs.History.Commits.{first_absent}
use Rattle.hk_model.specs.History.Histories.{commits, tables_of}
use Rattle.hk_primary.proofs.primary.Primary.first_absent.Given as goal

abbrev pub invariant-loop-write : goal.invariant-loop-write
invariant-loop-write l = first_absent (tables_of (commits l.self.history)) (finmap.values l.txn.writes) ≡ first_absent (tables_of (commits l.self.history)) l.write-iterator
