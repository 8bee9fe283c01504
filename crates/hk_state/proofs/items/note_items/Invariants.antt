use Rattle.std.proofs.Common.{◌≡◌, take, All}
use Rattle.hk_model.specs.Replica.Streams.{streams_of}
use Rattle.hk_model.specs.Replica.Lawful.{IsItem}
use Rattle.hk_state.proofs.items.note_items.Given as goal

abbrev pub invariant-loop-item : goal.invariant-loop-item
invariant-loop-item l = (l.got ≡ streams_of l.config.streams (take l.item-index l.items)) × All IsItem (take l.item-index l.items)
