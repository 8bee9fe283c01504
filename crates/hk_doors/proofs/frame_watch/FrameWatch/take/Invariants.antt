use Rattle.std.proofs.Common.{◌≡◌, ◌≤◌, ◌-◌, true, length, take, drop, []}
use Rattle.hk_doors.specs.Doors.{passes_all}
use Rattle.hk_doors.specs.Handing.{HandsOn}
use Rattle.hk_doors.proofs.frame_watch.FrameWatch.take.Given as goal

abbrev pub invariant-loop-done : goal.invariant-loop-done
invariant-loop-done l =
    record {
      some : l.done ≤ length l.bytes;
      kept : length l.bytes ≡ length l.fn.bytes;
      same : passes_all l.passes ≡ true → l.bytes ≡ l.fn.bytes;
      begun : l.self.begun ≡ [];
      gets : HandsOn l.passes l.fn.self.place (take l.done l.fn.bytes) (take l.done l.bytes) l.self.place;
      rest : drop l.done l.bytes ≡ drop l.done l.fn.bytes;
    }

abbrev pub decreases-loop-done : goal.decreases-loop-done
decreases-loop-done l = length l.bytes - l.done
