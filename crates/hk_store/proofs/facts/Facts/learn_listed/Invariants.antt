use Rattle.std.proofs.Common.{◌≡◌, false, take}
use Rattle.std.specs.List.{list_any}
use Rattle.hk_store.specs.Undos.{rolled_back}
use Rattle.hk_chains.specs.Versions.{value_conflicts_at}
use Rattle.hk_store.proofs.LearntFacts.{learnt}
use Rattle.hk_store.proofs.facts.Facts.learn_listed.Given as goal

abbrev pub invariant-loop-version : goal.invariant-loop-version
invariant-loop-version l = record {
  facts : l.self ≡ learnt l.coming.old l.coming.horizon l.initial.self (take l.version-index l.told);
  agrees : list_any (λ e. value_conflicts_at l.initial.self e.0 e.1) (take l.version-index l.told) ≡ false;
  back : rolled_back l.undo l.self ≡ rolled_back l.initial.undo l.initial.self;
}
