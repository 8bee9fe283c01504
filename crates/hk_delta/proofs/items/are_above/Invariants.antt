use Rattle.std.proofs.Common.{take, All}
use Rattle.hk_model.specs.Replica.Lawful.{IsItem}
use Rattle.hk_delta.specs.Agreeing.{IsAbove}
use Rattle.hk_delta.proofs.items.are_above.Given as goal

abbrev pub invariant-loop-item : goal.invariant-loop-item
invariant-loop-item l = record {
  above : All (IsAbove l.time) (take l.item-index l.items);
  lawful : All IsItem (take l.item-index l.items);
}
