use Rattle.std.proofs.Common.{◌≡◌, T, Ok, []}
use Rattle.std.specs.FinMap.{is_sorted}
use Rattle.hk_model.specs.History.Rows.{version_key_cmp}
use Rattle.hk_delta.specs.Versions.{last_version}
use Rattle.hk_delta.proofs.FactsInTurn.{all_joined}
use Rattle.hk_delta.proofs.JoinedFacts.{Follow}
use Rattle.hk_delta.proofs.versions.versions_of.Given as goal

abbrev pub invariant-loop-version : goal.invariant-loop-version
invariant-loop-version l = record {
  rising : T (is_sorted version_key_cmp l.versions.items);
  follow : Follow (last_version l.versions.items) l.version-iterator.rest.items;
  joined : all_joined (Ok l.versions.items) l.version-iterator.rest.items ≡ all_joined (Ok []) l.initial.version-iterator.rest.items;
}
