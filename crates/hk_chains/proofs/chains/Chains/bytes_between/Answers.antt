use Rattle.std.proofs.Common.{◌∙◌, ap, sym}
use Rattle.std.specs.FinMap as finmap
use Rattle.std.specs.BTreeMap.Range.{entries_between}
use Rattle.std.specs.declared.ops.Bound.TheVariants.{Included}
use Rattle.hk_model.specs.History.Rows.{row_key_cmp}
use Rattle.hk_slots.specs.SlotMaps.{map_of}
use Rattle.hk_chains.specs.Reads.{rows_at}
use Rattle.hk_chains.specs.Sizes.{answer_size}
use Rattle.hk_chains.proofs.RowsBetween.{below, shown_between, none_between}
use Rattle.hk_chains.proofs.chains.Chains.bytes_between.Goals as goal

pub returns-then-lt : goal.returns-then-lt
returns-then-lt c = ap answer_size (none_between c.args.table c.args.low c.args.high (below c.args.high c.args.low (sym c.lt.ensures ∙ c.if-lt.true)) _)

pub returns : goal.returns
returns c =
    let m = map_of row_key_cmp c.self.inside.chains in
    let first = c.new-first.ensures in
    let last = c.new-last.ensures in
    rw (← c.self.view_is) (c.bytes_in_range.ensures
    ∙ (ap answer_size (λ i. rows_at c.args.time (entries_between row_key_cmp (Included (first i)) (Included (last i)) (finmap.entries m)))
    ∙ ap answer_size (shown_between c.args.table c.args.low c.args.high m c.self.invariant.known c.args.time)))
