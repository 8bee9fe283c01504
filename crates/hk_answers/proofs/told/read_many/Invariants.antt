use Rattle.std.proofs.Common.{◌≡◌, ◌-◌, None}
use Rattle.hk_frames.proofs.ReadingLoop.{with_front}
use Rattle.hk_answers.specs.Told.{told_list_at}
use Rattle.hk_answers.proofs.told.read_many.Given as goal

abbrev pub invariant-loop : goal.invariant-loop
invariant-loop l = with_front l.streams.items (told_list_at (l.count - l.counter) None l.cursor) ≡ told_list_at l.count None l.fn.cursor
