use Rattle.std.proofs.Common.{◌∙◌, sym}
use Rattle.std.specs.FinMap as finmap
use Rattle.hk_model.specs.Replica.Streams.{stream_with}
use Rattle.hk_marks.specs.Seen.{waiting_seen}
use Rattle.hk_marks.proofs.StoredStreams.{covers_seen}
use Rattle.hk_marks.proofs.stream.Stream.raise.Goals as goal

pub returns : goal.returns
returns c =
    rw (← c.self.view_is) (
    sym (c.settle.ensures.settles _ (covers_seen _ _ c.take_up_to.ensures.extras))
    ∙ (λ i. stream_with (c.take_up_to.ensures.taken i) (c.close_up_to.ensures i) (finmap.entries (waiting_seen c.self.inside.waiting))))
