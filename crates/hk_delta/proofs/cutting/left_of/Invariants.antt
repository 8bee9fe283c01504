use Rattle.std.proofs.Common.{◌≡◌, map, take}
use Rattle.hk_store.specs.Versions.{borrowed}
use Rattle.hk_delta.specs.Cuts.{all_left}
use Rattle.hk_delta.proofs.cutting.left_of.Given as goal

abbrev pub invariant-loop-version : goal.invariant-loop-version
invariant-loop-version l = l.facts.items ≡ all_left l.base (map borrowed (take l.version-index l.versions))
