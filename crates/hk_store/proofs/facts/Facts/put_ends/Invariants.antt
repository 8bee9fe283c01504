use Rattle.std.proofs.Common.{◌≡◌, true, false, map, take}
use Rattle.std.specs.Bool.{OnTrue}
use Rattle.std.specs.FinMap as finmap
use Rattle.hk_model.specs.Replica.Maps.{union}
use Rattle.hk_store.specs.Undos.{ends_conflict, rolled_back}
use Rattle.hk_store.proofs.EntryPut.{IsOutside}
use Rattle.hk_store.proofs.facts.Facts.put_ends.Given as goal

abbrev pub invariant-loop-version : goal.invariant-loop-version
invariant-loop-version l = record {
  same : IsOutside (λ v. (v, l.fn.time)) l.initial.self.ends l.self.ends (take l.version-index l.ends);
  lasted : OnTrue l.room (l.fn.lasts ≡ true);
  put : OnTrue l.room (l.self.ends ≡ union l.initial.self.ends (finmap.from_entries (map (λ v. (v, l.fn.time)) (take l.version-index l.ends))));
  agrees : ends_conflict l.initial.self l.fn.time (take l.version-index l.ends) ≡ false;
  rows : l.self.rows ≡ l.initial.self.rows;
  back : rolled_back l.undo l.self ≡ rolled_back l.initial.undo l.initial.self;
}
