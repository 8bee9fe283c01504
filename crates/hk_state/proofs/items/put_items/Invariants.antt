use Rattle.std.proofs.Common.{◌≡◌, false, take}
use Rattle.hk_state.specs.Items.{facts_with, conflict_in_turn}
use Rattle.hk_store.specs.Undos.{rolled_back}
use Rattle.hk_state.proofs.items.put_items.Given as goal

abbrev pub invariant-loop-item : goal.invariant-loop-item
invariant-loop-item l = record {
  facts : l.facts ≡ facts_with l.initial.facts (take l.item-index l.items);
  agrees : conflict_in_turn l.initial.facts (take l.item-index l.items) ≡ false;
  back : rolled_back l.undo l.facts ≡ rolled_back l.initial.undo l.initial.facts;
}
