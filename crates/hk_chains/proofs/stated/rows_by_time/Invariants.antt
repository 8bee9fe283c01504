use Rattle.std.proofs.Common.{map}
use Rattle.hk_chains.specs.Versions.{borrowed}
use Rattle.hk_chains.proofs.SoughtVersions.{AreRowsStated}
use Rattle.hk_chains.proofs.stated.rows_by_time.Given as goal

abbrev pub invariant-loop-version : goal.invariant-loop-version
invariant-loop-version l = AreRowsStated l.stated (map borrowed l.yielded)
