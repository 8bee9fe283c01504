use Rattle.std.proofs.Common.{map, take}
use Rattle.hk_chains.specs.Versions.{borrowed}
use Rattle.hk_chains.proofs.SoughtVersions.{AreFound}
use Rattle.hk_chains.proofs.stated.sought_of.Given as goal

abbrev pub invariant-loop-row : goal.invariant-loop-row
invariant-loop-row l = AreFound l.chains l.sought (take l.row-index l.rows) (map borrowed l.found.items)
