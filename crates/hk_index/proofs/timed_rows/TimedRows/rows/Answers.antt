use Rattle.std.proofs.Common.{ap, ◌∙◌, sym, subst, true≢false, List, ◌++◌, take, drop}
use Rattle.std.proofs.lemmas.Bool.{OnTrue_at}
use Rattle.hk_model.specs.History.Rows.{RowKey, row_key_cmp}
use Rattle.hk_index.specs.declared.timed_row.TimedRow.{TimedRow}
use Rattle.hk_index.specs.Timed.{ListsRows, is_in}
use Rattle.hk_index.proofs.TagsListed.{none_rise}
use Rattle.hk_index.proofs.TimedLists.{both_parts, rows_in}
use Rattle.hk_index.proofs.timed_rows.TimedRows.rows.Goals as goal

pub returns-clause-ok : goal.returns-clause-ok
returns-clause-ok c =
    let ts = c.self.inside.rows.items in
    let ordered = c.self.inside.ordered in
    let split = c.split_at.ensures in
    let whole = c.deref.ensures.value in
    subst (λ s. ListsRows s c.args.span.now c.rising.result.items) c.self.view_is (record {
      rising = c.rising.ensures.rising;
      all = λ time row within there.
          c.rising.ensures.same row
          ∙ both_parts ts c.within.result.now c.split_at.result.1.now c.args.span.now ordered c.push_rows-2.new.found.items c.push_rows.new.found.items
          (λ t is e. c.within.ensures t is (ap (λ (l : List TimedRow). is_in l t) (split.front ∙ ap (take ordered) whole) ∙ e))
          (split.back ∙ ap (drop ordered) whole)
          (c.in_ok-push_rows.ensures ∙ ap (λ (l : List RowKey). l ++ rows_in c.args.span.now c.within.result.now) c.new-found.ensures.items) c.in_ok-push_rows-2.ensures time row within there;
    })

pub returns-then-is_empty-clause-ok : goal.returns-then-is_empty-clause-ok
returns-then-is_empty-clause-ok c =
    subst (λ l. ListsRows c.args.self.now c.args.span.now l) (sym c.new-found.ensures.items) (record {
      rising = none_rise row_key_cmp;
      all = λ time row within there. absurd (true≢false (sym within ∙ OnTrue_at c.if-is_empty.true c.is_empty.ensures time));
    })
