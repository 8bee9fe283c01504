use Rattle.std.proofs.Common.{◌≡◌, ◌-◌, None}
use Rattle.hk_answers.specs.Metrics.{table_list_at}
use Rattle.hk_frames.proofs.ReadingLoop.{with_front}
use Rattle.hk_answers.proofs.metrics.read_many_tables.Given as goal

abbrev pub invariant-loop : goal.invariant-loop
invariant-loop l = with_front l.tables.items (table_list_at (l.count - l.counter) l.before l.cursor) ≡ table_list_at l.count None l.fn.cursor
