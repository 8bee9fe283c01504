use Rattle.std.proofs.Common.{sym, ap, ◌∙◌, subst, map}
use Rattle.std.proofs.lemmas.List.{map_push}
use Rattle.hk_types.specs.Values.{RowValue}
use Rattle.hk_index.specs.Tags.{is_listed}
use Rattle.hk_chains.specs.Versions.{borrowed}
use Rattle.hk_chains.proofs.WalkedChains.{all_taken}
use Rattle.hk_chains.proofs.TaggedRows.{AreRowsListed, one_more_listed, all_rows_listed, some_is, none_is}
use Rattle.hk_chains.proofs.tag_index.keys_by_tag.Goals as goal

pub loop-version-preserved-in-Continue-1 : goal.loop-version-preserved-in-Continue-1
loop-version-preserved-in-Continue-1 c =
    let v = c.in-Some.version in
    subst (AreRowsListed c.add.new.self) (sym (map_push borrowed c.loop-version.yielded (c.in-Some.version, c.in-Some.known)))
    (one_more_listed c.loop-version.keys c.add.new.self (map borrowed c.loop-version.yielded) (borrowed (c.in-Some.version, c.in-Some.known)) c.in_ok-add.ensures.kept
    (λ row at.
    ap (λ (x : RowValue). is_listed c.add.new.self v.table x.tag v.key) (sym (some_is c.in-Some-row.row.now row (c.in-Some-row.ensures.value ∙ at)))
    ∙ ap (λ t. is_listed c.add.new.self v.table t v.key) (sym c.tag.ensures) ∙ c.in_ok-add.ensures.ok)
    c.loop-version.invariant)

pub loop-version-preserved : goal.loop-version-preserved
loop-version-preserved c =
    subst (AreRowsListed c.loop-version.keys) (sym (map_push borrowed c.loop-version.yielded (c.in-Some.version, c.in-Some.known)))
    (one_more_listed c.loop-version.keys c.loop-version.keys (map borrowed c.loop-version.yielded) (borrowed (c.in-Some.version, c.in-Some.known)) (λ _ _ _ was. was) (λ row at. none_is row (c.in_default.ensures.value ∙ at)) c.loop-version.invariant)

pub returns-clause-ok : goal.returns-clause-ok
returns-clause-ok c =
    let l = c.loop-version in
    let whole = sym c.into_iter-version-iterator.ensures.into_iter_gives ∙ all_taken c.into_iter-version-iterator.result l.yielded l.version-iterator c.next.new.self c.next.result l.yielded_by c.in-None.is c.next.ensures.steps in
    all_rows_listed c.args.chains.now l.keys c.walk-version-items.result c.walk-version-items.ensures (subst (AreRowsListed l.keys) (sym whole) l.invariant)
