use Rattle.std.proofs.Common.{◌≡◌, ◌++◌, take}
use Rattle.std.specs.List.{flat_map}
use Rattle.hk_delta.specs.Gathers.{end_fact}
use Rattle.hk_delta.proofs.gathering.put_ends.Given as goal

abbrev pub invariant-loop-version : goal.invariant-loop-version
invariant-loop-version l = l.facts.items ≡ l.initial.facts.items ++ flat_map (end_fact l.time) (take l.version-index l.ends)
