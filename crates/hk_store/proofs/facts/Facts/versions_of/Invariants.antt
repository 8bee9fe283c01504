use Rattle.std.proofs.Common.{◌≡◌, map, filter, All, Some}
use Rattle.std.specs.Option.{is_some}
use Rattle.std.specs.Map.Iter.{deref}
use Rattle.hk_chains.specs.Facts.{known_at}
use Rattle.hk_chains.specs.Versions.{borrowed}
use Rattle.hk_store.proofs.facts.Facts.versions_of.Given as goal

abbrev pub invariant-loop-version : goal.invariant-loop-version
invariant-loop-version l = record {
  known : All (λ e. known_at l.self e.0 ≡ Some e.1) (map borrowed l.found.items);
  kept : map (λ e. e.0) (map borrowed l.found.items) ≡ filter (λ v. is_some (known_at l.self v)) (map deref l.yielded);
}
