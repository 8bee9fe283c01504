use Rattle.std.proofs.Common.{◌≡◌, map}
use Rattle.std.specs.FinMap as finmap
use Rattle.hk_model.specs.Replica.Maps.{union}
use Rattle.hk_model.specs.History.Facts.{inserted_version}
use Rattle.hk_store.specs.Undos.{rolled_back}
use Rattle.hk_store.proofs.facts.Facts.add_rows.Given as goal

abbrev pub invariant-loop-table : goal.invariant-loop-table
invariant-loop-table l = record {
  rows : l.self.rows ≡ union l.initial.self.rows (finmap.from_entries (map (inserted_version l.fn.time) l.yielded));
  ends : l.self.ends ≡ l.initial.self.ends;
  back : rolled_back l.undo l.self ≡ rolled_back l.initial.undo l.initial.self;
}
