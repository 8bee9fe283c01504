use Rattle.std.proofs.Common.{◌≡◌, ◌-◌, None}
use Rattle.hk_answers.specs.Metrics.{metric_list_at}
use Rattle.hk_frames.proofs.ReadingLoop.{with_front}
use Rattle.hk_answers.proofs.metrics.read_many.Given as goal

abbrev pub invariant-loop : goal.invariant-loop
invariant-loop l = with_front l.metrics.items (metric_list_at (l.count - l.counter) l.before l.cursor) ≡ metric_list_at l.count None l.fn.cursor
