use Rattle.std.proofs.Common.{◌≡◌, ◌<◌, ℕ, true, Some, ◌⊎◌}
use Rattle.hk_numbers.specs.Runs.{AreRuns, DontTouch, HasRoomAt, SameNumbers, end_of}
use Rattle.hk_numbers.proofs.JoinedRuns.{begins}
use Rattle.hk_numbers.proofs.runs.make_room.Given as goal

abbrev pub invariant-loop-first : goal.invariant-loop-first
invariant-loop-first l = record {
  runs : AreRuns l.runs;
  apart : DontTouch l.runs;
  same : SameNumbers l.initial.runs l.runs;
  room : (a e : ℕ) → end_of l.others a ≡ Some e → a < e → HasRoomAt l.runs a ⊎ (begins l.first-iterator a ≡ true);
}
