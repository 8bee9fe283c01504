use Rattle.std.proofs.Common.{sym, ap, ◌∙◌, map}
use Rattle.std.specs.Option.{option_and_then}
use Rattle.std.specs.FinMap.{find}
use Rattle.hk_model.specs.History.Rows.{version_key_cmp}
use Rattle.hk_model.specs.Replica.Maps.{or_else}
use Rattle.hk_model.proofs.Replica.Maps.{find-append}
use Rattle.hk_store.specs.Facts.{known_at}
use Rattle.hk_store.specs.Versions.{borrowed}
use Rattle.hk_store.proofs.PickedVersions.{find_picked}
use Rattle.hk_store.proofs.WalkedChains.{all_taken}
use Rattle.hk_merge.specs.Plans.{row_comes, end_comes, rows_come, ends_come}
use Rattle.hk_merge.proofs.plan.take_whole.Goals as goal

pub returns-clause-rows : goal.returns-clause-rows
returns-clause-rows c = λ q.
    let k = c.args.coming.now in
    let own = c.args.own.now in
    let before = c.args.change.now.rows.items in
    let l = c.loop-version in
    let whole = sym c.into_iter-version-iterator.ensures.into_iter_gives ∙ all_taken c.into_iter-version-iterator.result l.yielded l.version-iterator c.next.new.self c.next.result l.yielded_by c.in-None.is c.next.ensures.steps in
    ap (find version_key_cmp q) l.invariant.rows
    ∙ find-append version_key_cmp q before (rows_come own k.old k.horizon (map borrowed l.yielded))
    ∙ ap (or_else (find version_key_cmp q before)) (
    ap (λ es. find version_key_cmp q (rows_come own k.old k.horizon es)) (sym whole)
    ∙ find_picked c.facts.result.now (row_comes own k.old k.horizon) q c.walk-version-items.result c.walk-version-items.ensures
    ∙ (λ i. option_and_then (row_comes own k.old k.horizon q) (known_at (record { rows = c.facts.ensures.rows i; ends = c.facts.ensures.ends i }) q)))

pub returns-clause-ends : goal.returns-clause-ends
returns-clause-ends c = λ q.
    let k = c.args.coming.now in
    let own = c.args.own.now in
    let before = c.args.change.now.ends.items in
    let l = c.loop-version in
    let whole = sym c.into_iter-version-iterator.ensures.into_iter_gives ∙ all_taken c.into_iter-version-iterator.result l.yielded l.version-iterator c.next.new.self c.next.result l.yielded_by c.in-None.is c.next.ensures.steps in
    ap (find version_key_cmp q) l.invariant.ends
    ∙ find-append version_key_cmp q before (ends_come own k.old k.horizon (map borrowed l.yielded))
    ∙ ap (or_else (find version_key_cmp q before)) (
    ap (λ es. find version_key_cmp q (ends_come own k.old k.horizon es)) (sym whole)
    ∙ find_picked c.facts.result.now (end_comes own k.old k.horizon) q c.walk-version-items.result c.walk-version-items.ensures
    ∙ (λ i. option_and_then (end_comes own k.old k.horizon q) (known_at (record { rows = c.facts.ensures.rows i; ends = c.facts.ensures.ends i }) q)))
