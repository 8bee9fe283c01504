use Rattle.std.proofs.Common.{◌≡◌, true, take}
use Rattle.hk_model.specs.History.Rows.{RowKey, row_key_cmp}
use Rattle.hk_index.specs.Timed.{is_among}
use Rattle.hk_slots.specs.SlotMaps.{AreOwn, map_of}
use Rattle.hk_chains.specs.Drops.{pruned_facts}
use Rattle.hk_chains.specs.Facts.{AreStored, facts_of}
use Rattle.hk_chains.specs.Sweeps.{HasEnded}
use Rattle.hk_chains.proofs.SweptChains.{NoneEnded}
use Rattle.hk_chains.proofs.sweep.sweep_listed.Given as goal

abbrev pub invariant-loop-row : goal.invariant-loop-row
invariant-loop-row l = record {
  own : AreOwn row_key_cmp l.chains;
  stored : AreStored (map_of row_key_cmp l.chains);
  same : pruned_facts (facts_of (map_of row_key_cmp l.chains)) l.until ≡ pruned_facts (facts_of (map_of row_key_cmp l.initial.chains)) l.until;
  listed : HasEnded (map_of row_key_cmp l.chains) l.until l.rows;
  swept : (row : RowKey) → is_among (take l.row-index l.rows) row ≡ true → NoneEnded (map_of row_key_cmp l.chains) l.until row;
}
