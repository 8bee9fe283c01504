use Rattle.std.proofs.Common.{◌≡◌, ℕ, ◌<◌, Some}
use Rattle.std.specs.FinMap as finmap
use Rattle.hk_model.specs.History.Rows.{RowKey, row_key_cmp}
use Rattle.hk_slots.specs.SlotMaps.{AreOwn, map_of, slots_of}
use Rattle.hk_chains.specs.Drops.{pruned_facts}
use Rattle.hk_chains.specs.Facts.{AreStored, facts_of}
use Rattle.hk_chains.proofs.SweptChains.{ArePassed}
use Rattle.hk_chains.proofs.sweep.sweep_all.Given as goal

abbrev pub invariant-loop-slot : goal.invariant-loop-slot
invariant-loop-slot l = record {
  own : AreOwn row_key_cmp l.chains;
  stored : AreStored (map_of row_key_cmp l.chains);
  same : pruned_facts (facts_of (map_of row_key_cmp l.chains)) l.until ≡ pruned_facts (facts_of (map_of row_key_cmp l.initial.chains)) l.until;
  below : (k : RowKey) (s : ℕ) → finmap.get (slots_of row_key_cmp l.chains) k ≡ Some s → s < l.slot-end;
  passed : ArePassed l.chains l.until l.slot;
}
