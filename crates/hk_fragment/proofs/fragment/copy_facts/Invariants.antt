use Rattle.std.proofs.Common.{◌≡◌, take}
use Rattle.hk_fragment.proofs.fragment.copy_facts.Given as goal

abbrev pub invariant-loop-version : goal.invariant-loop-version
invariant-loop-version l = l.copied.items ≡ take l.version-index l.facts
