use Rattle.std.proofs.Common.{◌≡◌, ◌-◌, None}
use Rattle.hk_answers.specs.Answers.{keyed_rows_at}
use Rattle.hk_frames.proofs.ReadingLoop.{with_front}
use Rattle.hk_answers.proofs.answer.read_many.Given as goal

abbrev pub invariant-loop : goal.invariant-loop
invariant-loop l = with_front l.rows.items (keyed_rows_at (l.count - l.counter) l.before l.cursor) ≡ keyed_rows_at l.count None l.fn.cursor
