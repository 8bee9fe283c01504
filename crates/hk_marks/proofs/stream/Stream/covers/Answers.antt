use Rattle.std.proofs.Common.{sym}
use Rattle.hk_marks.proofs.StoredStreams.{covers_seen}
use Rattle.hk_marks.proofs.stream.Stream.covers.Goals as goal

pub returns : goal.returns
returns c = rw (← c.self.view_is) (sym (covers_seen _ _ c.self.invariant.stored.extras _))
