use Rattle.std.proofs.Common.{◌≡◌, ◌-◌, None}
use Rattle.hk_messages.specs.Requests.{plain_frames_at}
use Rattle.hk_frames.proofs.ReadingLoop.{with_front}
use Rattle.hk_messages.proofs.items.read_many.Given as goal

abbrev pub invariant-loop : goal.invariant-loop
invariant-loop l = with_front l.items.items (plain_frames_at (l.count - l.counter) None l.cursor) ≡ plain_frames_at l.count None l.fn.cursor
