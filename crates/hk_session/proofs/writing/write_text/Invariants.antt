use Rattle.std.proofs.Common.{length, take, ◌-◌, ◌≡◌, ◌≤◌}
use Rattle.std.specs.Io.KnownBytes.{Appends}
use Rattle.hk_session.proofs.writing.write_text.Given as goal

abbrev pub invariant-loop-done : goal.invariant-loop-done
invariant-loop-done g l =
    record {
      fits : l.done ≤ length l.text;
      sent : Appends (g.W.Write.contents l.fn.writer.device) (g.W.Write.contents l.writer.device) (take l.done l.text);
      quiet : l.writer.faults ≡ 0;
    }

abbrev pub decreases-loop-done : goal.decreases-loop-done
decreases-loop-done g l = length l.text - l.done
