use Rattle.std.proofs.Common.{◌≡◌, drop}
use Rattle.hk_fragment.specs.Assemblies.{checked_last}
use Rattle.hk_fragment.proofs.assembly.last_if_rising.Given as goal

abbrev pub invariant-loop-version : goal.invariant-loop-version
invariant-loop-version l = checked_last l.last (drop l.version-index l.facts) ≡ checked_last l.fn.before l.facts
