use Rattle.std.proofs.Common.{◌≡◌}
use Rattle.hk_chains.specs.Versions.{left_of_walk}
use Rattle.hk_chains.proofs.WalkedChains.{rows_left}
use Rattle.hk_chains.proofs.walk.WalkIterator.next.Given as goal

abbrev pub invariant-loop-self : goal.invariant-loop-self
invariant-loop-self l = left_of_walk l.self-inside.here l.self-inside.after l.self-inside.rows ≡ left_of_walk l.initial.self-inside.here l.initial.self-inside.after l.initial.self-inside.rows

abbrev pub decreases-loop-self : goal.decreases-loop-self
decreases-loop-self l = rows_left l.self-inside.here l.self-inside.rows
