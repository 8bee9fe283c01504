use Rattle.std.proofs.Common.{◌≡◌, map}
use Rattle.hk_types.specs.declared.version_key.VersionKey.{VersionKey}
use Rattle.hk_log.specs.Versions.{VersionValue}
use Rattle.hk_index.specs.Listed.{is_up_to}
use Rattle.hk_chains.specs.Versions.{borrowed}
use Rattle.hk_chains.proofs.WalkedChains.{Passed}
use Rattle.hk_chains.proofs.key_index.list_up_to.Given as goal

abbrev pub invariant-loop-version : goal.invariant-loop-version
invariant-loop-version l = record {
  all : l.found.items ≡ map (λ (e : VersionKey × VersionValue). e.0) (map borrowed l.yielded);
  passed : Passed (is_up_to l.fn.table l.fn.high) l.found.items;
}
