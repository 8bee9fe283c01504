use Rattle.std.proofs.Common.{◌∙◌, sym, arith, cond, Some}
use Rattle.hk_facts.proofs.StoredTrees.{get_seen, tied_flip}
use Rattle.hk_facts.proofs.ListedVersions.{row_less, row_more, row_all, row_told, same_truth, other_truth}
use Rattle.hk_facts.proofs.versions.Versions.of_list.Goals as goal

pub loop-born-preserved-then-is_some-with_row : goal.loop-born-preserved-then-is_some-with_row
loop-born-preserved-then-is_some-with_row c q =
    c.loop-born.invariant q
    ∙ sym (row_less c.args.list.now c.loop-born.born-index c.loop-born-item.result c.requires c.loop-born-test.true c.loop-born-item.is c.args.with_row (other_truth _ _ c.args.with_row (row_told (λ x. x.now) c.row.result _ _ c.row.ensures.value c.is_some.ensures) c.if-is_some-with_row.true) q)

pub loop-born-preserved : goal.loop-born-preserved
loop-born-preserved c q =
    c.in_ok-insert.ensures.ok.0 q
    ∙ (λ i. cond (tied_flip q c.loop-born-item.result.0 i) (Some (c.in_ok-copy.ensures i)) (c.loop-born.invariant q i))
    ∙ sym (row_more c.args.list.now c.loop-born.born-index c.loop-born-item.result c.requires c.loop-born-test.true c.loop-born-item.is c.args.with_row (same_truth _ _ c.args.with_row (row_told (λ x. x.now) c.row.result _ _ c.row.ensures.value c.is_some.ensures) c.if-is_some-with_row.false) q)

pub returns : goal.returns
returns c q = get_seen c.loop-born.versions q ∙ c.loop-born.invariant q ∙ row_all c.args.list.now c.loop-born.born-index q c.args.with_row (omega arith)
