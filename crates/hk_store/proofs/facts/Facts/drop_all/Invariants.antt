use Rattle.std.proofs.Common.{◌≡◌, take}
use Rattle.hk_chains.specs.Drops.{without_all}
use Rattle.hk_store.proofs.facts.Facts.drop_all.Given as goal

abbrev pub invariant-loop-version : goal.invariant-loop-version
invariant-loop-version l = l.self ≡ without_all l.initial.self (take l.version-index l.versions)
