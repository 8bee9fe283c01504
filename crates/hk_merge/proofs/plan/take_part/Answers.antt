use Rattle.std.proofs.Common.{◌≡◌, refl, ap, ◌∙◌, arith, map, take}
use Rattle.std.proofs.lemmas.List.{map-id, take_all}
use Rattle.std.specs.FinMap.{find}
use Rattle.hk_model.specs.History.Rows.{version_key_cmp}
use Rattle.hk_model.specs.Replica.Maps.{or_else}
use Rattle.hk_model.proofs.Replica.Maps.{find-append}
use Rattle.hk_fragment.specs.Parts.{versions_listed}
use Rattle.hk_fragment.proofs.FoundVersions.{versions_are}
use Rattle.hk_store.specs.Reads.{facts_of_content}
use Rattle.hk_store.proofs.PickedVersions.{find_picked}
use Rattle.hk_store.specs.Facts.{entry_if}
use Rattle.hk_merge.specs.Plans.{row_comes, end_comes, rows_come, ends_come}
use Rattle.hk_merge.proofs.GrowingLists.{grown_none, grown_more}
use Rattle.hk_merge.proofs.plan.take_part.Goals as goal

pub loop-version-init : goal.loop-version-init
loop-version-init c = record {
  rows = grown_none c.args.change.now.rows.items;
  ends = grown_none c.args.change.now.ends.items;
  drops = refl;
  horizon = refl;
}

pub loop-version-preserved : goal.loop-version-preserved
loop-version-preserved c =
    let l = c.args.coming.now in
    let e = c.in_ok-take_version.ensures in
    let o = c.loop-version in
    record {
      rows = grown_more (λ e. e) (λ e. entry_if e.0 (row_comes c.args.own.now l.old l.horizon e.0 e.1)) c.args.change.now.rows.items o.change.rows.items c.take_version.new.change.rows.items c.facts-facts.result.now o.version-index c.loop-version-item.result c.loop-version-item.is (omega arith) o.invariant.rows e.rows;
      ends = grown_more (λ e. e) (λ e. entry_if e.0 (end_comes c.args.own.now l.old l.horizon e.0 e.1)) c.args.change.now.ends.items o.change.ends.items c.take_version.new.change.ends.items c.facts-facts.result.now o.version-index c.loop-version-item.result c.loop-version-item.is (omega arith) o.invariant.ends e.ends;
      drops = c.take_version.ensures.drops ∙ o.invariant.drops;
      horizon = c.take_version.ensures.horizon ∙ o.invariant.horizon;
    }

pub returns-clause-rows : goal.returns-clause-rows
returns-clause-rows c = λ q.
    let k = c.args.coming.now in
    let own = c.args.own.now in
    let sent = c.args.fragment.now.content in
    let facts = c.facts-facts.result.now in
    let before = c.args.change.now.rows.items in
    let whole : map (λ e. e) (take c.loop-version.version-index facts) ≡ versions_listed sent = map-id (take c.loop-version.version-index facts) ∙ take_all c.loop-version.version-index facts (omega (arith, c.loop-version-test.false)) ∙ c.facts-facts.ensures.value in
    ap (find version_key_cmp q) c.loop-version.invariant.rows
    ∙ find-append version_key_cmp q before (rows_come own k.old k.horizon (map (λ e. e) (take c.loop-version.version-index facts)))
    ∙ ap (or_else (find version_key_cmp q before)) (
    ap (λ es. find version_key_cmp q (rows_come own k.old k.horizon es)) whole
    ∙ find_picked (facts_of_content sent) (row_comes own k.old k.horizon) q (versions_listed sent) (versions_are sent))

pub returns-clause-ends : goal.returns-clause-ends
returns-clause-ends c = λ q.
    let k = c.args.coming.now in
    let own = c.args.own.now in
    let sent = c.args.fragment.now.content in
    let facts = c.facts-facts.result.now in
    let before = c.args.change.now.ends.items in
    let whole : map (λ e. e) (take c.loop-version.version-index facts) ≡ versions_listed sent = map-id (take c.loop-version.version-index facts) ∙ take_all c.loop-version.version-index facts (omega (arith, c.loop-version-test.false)) ∙ c.facts-facts.ensures.value in
    ap (find version_key_cmp q) c.loop-version.invariant.ends
    ∙ find-append version_key_cmp q before (ends_come own k.old k.horizon (map (λ e. e) (take c.loop-version.version-index facts)))
    ∙ ap (or_else (find version_key_cmp q before)) (
    ap (λ es. find version_key_cmp q (ends_come own k.old k.horizon es)) whole
    ∙ find_picked (facts_of_content sent) (end_comes own k.old k.horizon) q (versions_listed sent) (versions_are sent))
