use Rattle.std.proofs.Common.{◌≡◌, take, length}
use Rattle.hk_model.specs.Replica.Lawful.{IsLawful}
use Rattle.hk_model.specs.Replica.Streams.{all_together, streams_of}
use Rattle.hk_delta.specs.Agreeing.{AreNew}
use Rattle.hk_delta.proofs.agreeing.are_new.Given as goal

abbrev pub invariant-loop-item : goal.invariant-loop-item
invariant-loop-item l = record {
  lawful : IsLawful l.state;
  streams : l.all ≡ all_together l.state.streams (streams_of (length l.state.streams) (take l.item-index l.items));
  new : AreNew l.state (take l.item-index l.items);
}
