use Rattle.std.proofs.Common.{sym, ◌∙◌, subst, map}
use Rattle.std.proofs.lemmas.List.{map_push}
use Rattle.hk_chains.specs.Versions.{borrowed}
use Rattle.hk_chains.proofs.WalkedChains.{all_taken}
use Rattle.hk_chains.proofs.SoughtVersions.{AreRowsStated, all_rows_stated, one_more_stated}
use Rattle.hk_chains.proofs.stated.rows_by_time.Goals as goal

pub loop-version-preserved : goal.loop-version-preserved
loop-version-preserved c =
    subst (AreRowsStated c.state.new.stated) (sym (map_push borrowed c.loop-version.yielded (c.in-Some.version, c.in-Some.known)))
    (one_more_stated c.loop-version.stated c.state.new.stated (map borrowed c.loop-version.yielded) (borrowed (c.in-Some.version, c.in-Some.known)) c.in_ok-state.ensures.kept c.in_ok-state.ensures.ok c.loop-version.invariant)

pub returns-clause-ok : goal.returns-clause-ok
returns-clause-ok c =
    let l = c.loop-version in
    let whole = sym c.into_iter-version-iterator.ensures.into_iter_gives ∙ all_taken c.into_iter-version-iterator.result l.yielded l.version-iterator c.next.new.self c.next.result l.yielded_by c.in-None.is c.next.ensures.steps in
    all_rows_stated c.args.chains.now l.stated c.walk-version-items.result c.walk-version-items.ensures (subst (AreRowsStated l.stated) (sym whole) l.invariant)
