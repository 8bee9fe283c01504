use Rattle.std.proofs.Common.{◌≡◌, ◌+◌, drop}
use Rattle.hk_values.specs.Cutting as spec
use Rattle.hk_values.proofs.cutting.count_within.Given as goal

abbrev pub invariant-loop-version : goal.invariant-loop-version
invariant-loop-version l =
    record {
      counted : l.count ≡ l.version-index;
      more : l.count + spec.count_within l.left (drop l.version-index l.facts) ≡ spec.count_within l.room l.facts;
    }
