use Rattle.std.proofs.Common.{◌≡◌, length}
use Rattle.hk_facts.specs.Chains.{latest_at, last_where}
use Rattle.hk_facts.proofs.LastOfList.{has_row}
use Rattle.hk_facts.proofs.versions.Versions.latest.Given as goal

abbrev pub invariant-loop-born : goal.invariant-loop-born
invariant-loop-born l = last_where has_row l.earlier ≡ latest_at l.self l.fn.time

abbrev pub decreases-loop-born : goal.decreases-loop-born
decreases-loop-born l = length l.earlier
