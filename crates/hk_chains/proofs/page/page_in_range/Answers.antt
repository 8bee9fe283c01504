use Rattle.std.proofs.Common.{◌≡◌, ◌∙◌, ap, List, ℕ, Bool, Option, None, Some}
use Rattle.std.proofs.lemmas.Bool.{OnTrue_at, OnFalse_at}
use Rattle.hk_facts.specs.Chains.{ChainValue, row_at}
use Rattle.std.specs.FinMap as finmap
use Rattle.std.specs.BTreeMap.Range.{entries_between}
use Rattle.std.specs.declared.ops.Bound.TheVariants.{Included}
use Rattle.hk_model.specs.History.Rows.{RowKey, row_key_cmp}
use Rattle.hk_slots.specs.SlotMaps.{map_of}
use Rattle.hk_model.specs.Replica.Pages.{page_of}
use Rattle.hk_chains.specs.Paging.{Spends}
use Rattle.hk_chains.specs.Reads.{keyed_if, rows_at}
use Rattle.hk_chains.proofs.FilledPages.{fills_on, filled}
use Rattle.hk_chains.proofs.page.page_in_range.Goals as goal

-- looks that aren't counted stay so
spends_free : (left new : Option ℕ) (has : Bool) → Spends left new has → left ≡ None → new ≡ None
spends_free None new has spends none = spends.0
spends_free (Some left) new has spends none = absurd (cc)

pub returns-then-not-branch : goal.returns-then-not-branch
returns-then-not-branch c =
    filled c.args.time c.args.most c.args.room _ c.loop-row.page c.put_row_at.new.page c.loop-row.row-iterator c.next.new.self _ _ c.in-Some.ensures.steps
    (ap (λ (k : RowKey). keyed_if k.key (row_at c.in-Some.chain.now c.args.time)) c.row.view_is) c.loop-row.invariant.fills (OnFalse_at c.if-not-branch.true c.in_ok-put_row_at.ensures.full)
    ∙ ap (λ (es : List (RowKey × ChainValue)). page_of c.args.most c.args.room (rows_at c.args.time es)) (c.into_iter-row-iterator.ensures.into_iter_gives ∙ c.range-row-items.ensures.between c.new-2.ensures.exhausted)
    ∙ (λ i. page_of c.args.most c.args.room (rows_at c.args.time (entries_between row_key_cmp (Included (c.new-2.ensures.start i)) (Included (c.new-2.ensures.end i)) (finmap.entries (map_of row_key_cmp c.args.chains.now)))))

pub loop-row-preserved : goal.loop-row-preserved
loop-row-preserved c = record {
  fills = fills_on c.args.time c.args.most c.args.room _ c.loop-row.page c.put_row_at.new.page c.loop-row.row-iterator c.next.new.self _ _ c.in-Some.ensures.steps
      (ap (λ (k : RowKey). keyed_if k.key (row_at c.in-Some.chain.now c.args.time)) c.row.view_is) c.loop-row.invariant.fills (OnTrue_at c.if-not-branch.false c.in_ok-put_row_at.ensures.taken);
  free = λ none. spends_free c.loop-row.left c.spend.new.looks c.spend.result c.spend.ensures (c.loop-row.invariant.free none);
}
