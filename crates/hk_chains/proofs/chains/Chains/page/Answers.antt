use Rattle.std.proofs.Common.{◌∙◌, ap, sym}
use Rattle.std.specs.FinMap as finmap
use Rattle.std.specs.BTreeMap.Range.{entries_between}
use Rattle.std.specs.declared.ops.Bound.TheVariants.{Included}
use Rattle.hk_model.specs.History.Rows.{row_key_cmp}
use Rattle.hk_model.specs.Replica.Pages.{page_of}
use Rattle.hk_slots.specs.SlotMaps.{map_of}
use Rattle.hk_chains.specs.Reads.{rows_at}
use Rattle.hk_chains.proofs.FilledPages.{empty_page, same_page_within}
use Rattle.hk_chains.proofs.RowsBetween.{below, shown_between, none_between}
use Rattle.hk_chains.proofs.chains.Chains.page.Goals as goal

pub returns-then-lt : goal.returns-then-lt
returns-then-lt c =
    empty_page c.args.most c.args.room c.new.result.items _ c.new.ensures.items
    (none_between c.args.table c.args.low c.args.high (below c.args.high c.args.low (sym c.lt.ensures ∙ c.if-lt.true)) _)

pub returns : goal.returns
returns c =
    let m = map_of row_key_cmp c.self.inside.chains in
    let first = c.new-first.ensures in
    let last = c.new-last.ensures in
    rw (← c.self.view_is) (same_page_within c.args.looks c.args.most c.args.room _ _ c.page_in_range.result
    ((λ i. page_of c.args.most c.args.room (rows_at c.args.time (entries_between row_key_cmp (Included (first i)) (Included (last i)) (finmap.entries m)))) ∙ ap (page_of c.args.most c.args.room) (shown_between c.args.table c.args.low c.args.high m c.self.invariant.known c.args.time))
    c.page_in_range.ensures)
