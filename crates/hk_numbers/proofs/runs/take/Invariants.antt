use Rattle.std.proofs.Common.{◌≤◌, ◌<◌, ◌^◌, ◌+◌, ℕ, length}
use Rattle.hk_numbers.specs.Runs.{AreRuns, ArePart, Holds}
use Rattle.hk_numbers.proofs.runs.take.Given as goal

abbrev pub invariant-loop-first : goal.invariant-loop-first
invariant-loop-first l = record {
  runs : AreRuns l.runs;
  part : ArePart l.initial.runs l.runs;
  least : l.fn.prefix + 1 ≤ l.next;
  most : l.next ≤ 2 ^ 62 + 1;
  taken : (q : ℕ) → l.fn.prefix < q → q < l.next → Holds l.initial.runs q;
  kept : (q : ℕ) → Holds l.initial.runs q → l.next ≤ q → Holds l.runs q;
}

abbrev pub decreases-loop-first : goal.decreases-loop-first
decreases-loop-first l = length l.runs.entries
