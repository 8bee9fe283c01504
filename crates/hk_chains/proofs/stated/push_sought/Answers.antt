use Rattle.std.proofs.Common.{sym, ap, map, ◌∙◌, ◌++◌}
use Rattle.std.specs.FinMap as finmap
use Rattle.hk_chains.specs.Stated.{sought_in}
use Rattle.hk_chains.specs.Versions.{borrowed}
use Rattle.hk_chains.proofs.SoughtVersions.{all_passed_over, no_more, one_step}
use Rattle.hk_chains.proofs.WalkedChains.{chain_done, chain_next, shorter}
use Rattle.hk_chains.proofs.stated.push_sought.Goals as goal

pub loop-version-init : goal.loop-version-init
loop-version-init c = ap (λ es. map borrowed c.args.found.now.items ++ es) (all_passed_over c.args.row.now c.args.sought.now c.args.chain.now c.over_before-after.result c.over_before-after.ensures)

pub loop-version-smaller : goal.loop-version-smaller
loop-version-smaller c = shorter _ _ _ (chain_next c.args.chain.now c.loop-version.after (c.in-Some.version.born, c.in-Some.known.now) c.in-Some.ensures.1)

pub loop-version-preserved : goal.loop-version-preserved
loop-version-preserved c =
    let next = chain_next c.args.chain.now c.loop-version.after (c.in-Some.version.born, c.in-Some.known.now) c.in-Some.ensures.1 in
    one_step c.args.row.now c.args.sought.now (map borrowed c.loop-version.found.items) (map borrowed c.push_if.new.found.items) c.in-Some.version c.in-Some.known.now c.has.result _ _ next c.in-Some.ensures.0 c.has.ensures c.in_ok-push_if.ensures ∙ c.loop-version.invariant

pub returns : goal.returns
returns c = sym (no_more c.args.row.now c.args.sought.now (map borrowed c.loop-version.found.items) _ (chain_done c.args.chain.now c.loop-version.after c.in_default.ensures)) ∙ c.loop-version.invariant
