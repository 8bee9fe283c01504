use Rattle.std.proofs.Common.{◌≡◌, false, map}
use Rattle.std.specs.List.{list_any}
use Rattle.hk_store.specs.Undos.{rolled_back}
use Rattle.hk_chains.specs.Versions.{borrowed, value_conflicts_at}
use Rattle.hk_store.proofs.LearntFacts.{learnt}
use Rattle.hk_store.proofs.facts.Facts.learn_held.Given as goal

abbrev pub invariant-loop-version : goal.invariant-loop-version
invariant-loop-version l = record {
  facts : l.self ≡ learnt l.coming.old l.coming.horizon l.initial.self (map borrowed l.yielded);
  agrees : list_any (λ e. value_conflicts_at l.initial.self e.0 e.1) (map borrowed l.yielded) ≡ false;
  back : rolled_back l.undo l.self ≡ rolled_back l.initial.undo l.initial.self;
}
