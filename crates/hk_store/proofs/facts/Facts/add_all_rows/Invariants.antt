use Rattle.std.proofs.Common.{◌≡◌}
use Rattle.std.specs.FinMap as finmap
use Rattle.hk_model.specs.Replica.Maps.{union}
use Rattle.hk_store.specs.Undos.{rolled_back}
use Rattle.hk_store.proofs.facts.Facts.add_all_rows.Given as goal

abbrev pub invariant-loop-version : goal.invariant-loop-version
invariant-loop-version l = record {
  rows : l.self.rows ≡ union l.initial.self.rows (finmap.from_entries l.yielded);
  ends : l.self.ends ≡ l.initial.self.ends;
  back : rolled_back l.undo l.self ≡ rolled_back l.initial.undo l.initial.self;
}
