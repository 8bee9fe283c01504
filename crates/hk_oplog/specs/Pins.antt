-- The active pins as a node keeps them: their times, by their numbers.
use Rattle.std.specs.Prelude.{ℕ, ◌≤◌, All, List, map}
use Rattle.std.specs.BTreeMap as tree
use Rattle.std.specs.BTreeMap.{BTreeMap}
use Rattle.std.specs.Ordering.{nat_cmp}
use Rattle.hk_oplog.specs.declared.op.Hold.{Hold}

abbrev pub pin_of : ℕ × ℕ → Hold
pin_of e = record { reader = e.0; at = e.1 }

-- the pins, in the order of their numbers, in which they were given
abbrev pub pins_of : BTreeMap ℕ ℕ → List Hold
pins_of holds = map pin_of holds.entries

-- the numbers rise, and so many were given at most
pub record AreNumbered (count : ℕ) (holds : BTreeMap ℕ ℕ) : Type 0 where
  pub ordered : tree.IsOrdered nat_cmp holds
  pub given : All (λ e. e.0 ≤ count) holds.entries
