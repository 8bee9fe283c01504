use Rattle.std.proofs.Common.{◌≡◌, ℕ, true, ◌⊎◌}
use Rattle.std.specs.FinSet as set
use Rattle.hk_numbers.specs.Runs.{AreRuns, DontTouch, HasRoomFor, Holds, numbers_in}
use Rattle.hk_numbers.proofs.runs.settle.Given as goal

abbrev pub invariant-loop-first : goal.invariant-loop-first
invariant-loop-first l = record {
  runs : AreRuns l.runs;
  apart : DontTouch l.runs;
  room : HasRoomFor l.others l.runs;
  only : (q : ℕ) → Holds l.runs q → Holds l.initial.runs q ⊎ Holds l.others q;
  kept : (q : ℕ) → Holds l.initial.runs q → Holds l.runs q;
  added : (q : ℕ) → Holds l.others q → Holds l.runs q ⊎ (set.contains (numbers_in l.first-iterator) q ≡ true);
}
