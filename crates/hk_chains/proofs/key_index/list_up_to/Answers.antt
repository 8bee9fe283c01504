use Rattle.std.proofs.Common.{◌∷◌, ◌++◌, [], refl, sym, ap, ◌∙◌, Bor, map}
use Rattle.hk_types.specs.declared.version_key.VersionKey.{VersionKey}
use Rattle.hk_log.specs.Versions.{VersionValue}
use Rattle.hk_index.specs.Listed.{is_up_to}
use Rattle.hk_chains.specs.Versions.{borrowed}
use Rattle.hk_chains.proofs.WalkedRows.{listed_up_to}
use Rattle.hk_chains.proofs.WalkedChains.{all_taken, one_more_taken, one_more_key, one_more_passed, all_passed, none_more}
use Rattle.hk_chains.proofs.key_index.list_up_to.Goals as goal

pub loop-version-init : goal.loop-version-init
loop-version-init c = record {
  all = c.new-found.ensures.items;
  passed = rw c.new-found.ensures.items (λ rest. refl);
}

pub returns-then-not-is_up_to-clause-ok : goal.returns-then-not-is_up_to-clause-ok
returns-then-not-is_up_to-clause-ok c =
    let p = is_up_to c.args.table c.args.high in
    let l = c.loop-version in
    let e : VersionKey × Bor VersionValue = (c.in-Some.version, c.in-Some._known) in
    let whole = sym c.into_iter-version-iterator.ensures.into_iter_gives ∙ one_more_taken c.into_iter-version-iterator.result l.yielded l.version-iterator c.next.new.self c.next.result e l.yielded_by c.in-Some.is c.next.ensures.steps in
    listed_up_to c.args.chains.now c.args.table c.args.low c.args.high c.walk_from-version-items.result l.found.items c.walk_from-version-items.ensures
    (none_more p l.found.items c.walk_from-version-items.result (map borrowed l.yielded) c.next.new.self (borrowed e) whole l.invariant.all (sym c.if-not-is_up_to.ensures) l.invariant.passed)

pub loop-version-preserved : goal.loop-version-preserved
loop-version-preserved c = record {
  all = c.in_ok-push.ensures.items ∙ ap (λ ks. ks ++ c.in-Some.version ∷ []) c.loop-version.invariant.all ∙ sym (one_more_key c.loop-version.yielded (c.in-Some.version, c.in-Some._known));
  passed = one_more_passed (is_up_to c.args.table c.args.high) c.loop-version.found.items c.push.new.self.items c.in-Some.version c.in_ok-push.ensures.items (sym c.if-not-is_up_to.ensures) c.loop-version.invariant.passed;
}

pub returns-clause-ok : goal.returns-clause-ok
returns-clause-ok c =
    let p = is_up_to c.args.table c.args.high in
    let l = c.loop-version in
    let first : VersionKey × VersionValue → VersionKey = λ e. e.0 in
    let whole = sym c.into_iter-version-iterator.ensures.into_iter_gives ∙ all_taken c.into_iter-version-iterator.result l.yielded l.version-iterator c.next.new.self c.next.result l.yielded_by c.in-None.is c.next.ensures.steps in
    listed_up_to c.args.chains.now c.args.table c.args.low c.args.high c.walk_from-version-items.result l.found.items c.walk_from-version-items.ensures
    (all_passed p l.found.items c.walk_from-version-items.result (ap (map first) whole ∙ sym l.invariant.all) l.invariant.passed)
