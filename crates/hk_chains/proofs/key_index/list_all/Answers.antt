use Rattle.std.proofs.Common.{sym, ap, ◌∙◌, map, subst}
use Rattle.hk_types.specs.declared.version_key.VersionKey.{VersionKey}
use Rattle.hk_log.specs.Versions.{VersionValue}
use Rattle.hk_index.specs.Listed.{Lists}
use Rattle.hk_chains.specs.Indexed.{keys_of}
use Rattle.hk_chains.proofs.WalkedRows.{all_listed}
use Rattle.hk_chains.proofs.WalkedChains.{all_taken}
use Rattle.hk_chains.proofs.key_index.list_all.Goals as goal

pub returns-clause-ok : goal.returns-clause-ok
returns-clause-ok c =
    let l = c.loop-version in
    let whole = sym c.into_iter-version-iterator.ensures.into_iter_gives ∙ all_taken c.into_iter-version-iterator.result l.yielded l.version-iterator c.next.new.self c.next.result l.yielded_by c.in-None.is c.next.ensures.steps in
    subst (λ vs. Lists vs (keys_of c.args.chains.now)) (ap (map (λ (e : VersionKey × VersionValue). e.0)) whole ∙ sym l.invariant) (all_listed c.args.chains.now c.walk-version-items.result c.walk-version-items.ensures)
