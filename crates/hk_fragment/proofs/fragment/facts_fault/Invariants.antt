use Rattle.std.proofs.Common.{◌≡◌, None, drop}
use Rattle.hk_fragment.specs.Parts as spec
use Rattle.hk_fragment.proofs.fragment.facts_fault.Given as goal

abbrev pub invariant-loop-version : goal.invariant-loop-version
invariant-loop-version l = spec.facts_fault l.base l.horizon l.before (drop l.version-index l.facts) ≡ spec.facts_fault l.base l.horizon None l.facts
