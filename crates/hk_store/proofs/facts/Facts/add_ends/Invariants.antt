use Rattle.std.proofs.Common.{◌≡◌, map, take}
use Rattle.std.specs.FinMap as finmap
use Rattle.hk_model.specs.Replica.Maps.{union}
use Rattle.hk_store.specs.Undos.{rolled_back}
use Rattle.hk_store.proofs.facts.Facts.add_ends.Given as goal

abbrev pub invariant-loop-version : goal.invariant-loop-version
invariant-loop-version l = record {
  rows : l.self.rows ≡ l.initial.self.rows;
  ends : l.self.ends ≡ union l.initial.self.ends (finmap.from_entries (map (λ v. (v, l.fn.time)) (take l.version-index l.ends)));
  back : rolled_back l.undo l.self ≡ rolled_back l.initial.undo l.initial.self;
}
