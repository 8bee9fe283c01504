use Rattle.std.proofs.Common.{◌≡◌, vec_len}
use Rattle.hk_store.specs.Undos.{rolled_back}
use Rattle.hk_store.proofs.facts.Facts.take_back.Given as goal

abbrev pub invariant-loop-version : goal.invariant-loop-version
invariant-loop-version l = rolled_back l.parts.items l.self ≡ rolled_back l.initial.parts.items l.initial.self

abbrev pub decreases-loop-version : goal.decreases-loop-version
decreases-loop-version l = vec_len l.parts
