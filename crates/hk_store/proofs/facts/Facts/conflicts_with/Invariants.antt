use Rattle.std.proofs.Common.{◌≡◌, false, map}
use Rattle.std.specs.List.{list_any}
use Rattle.hk_chains.specs.Versions.{borrowed, value_conflicts_at}
use Rattle.hk_store.proofs.facts.Facts.conflicts_with.Given as goal

abbrev pub invariant-loop-version : goal.invariant-loop-version
invariant-loop-version l = list_any (λ e. value_conflicts_at l.self e.0 e.1) (map borrowed l.yielded) ≡ false
