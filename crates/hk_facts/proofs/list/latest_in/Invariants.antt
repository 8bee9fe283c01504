use Rattle.std.proofs.Common.{◌≡◌, ◌≤◌, take, length}
use Rattle.hk_facts.specs.Chains.{latest_at, last_where}
use Rattle.hk_facts.specs.Listed.{listed}
use Rattle.hk_facts.proofs.LastOfList.{has_row}
use Rattle.hk_facts.proofs.list.latest_in.Given as goal

abbrev pub invariant-loop-end : goal.invariant-loop-end
invariant-loop-end l = (l.end ≤ length l.list) × (last_where has_row (take l.end l.list) ≡ latest_at (listed l.list) l.fn.time)

abbrev pub decreases-loop-end : goal.decreases-loop-end
decreases-loop-end l = l.end
