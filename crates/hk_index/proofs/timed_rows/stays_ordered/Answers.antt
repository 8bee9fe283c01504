use Rattle.std.proofs.Common.{sym, subst, ◌≤◌, leb-true}
use Rattle.std.proofs.lemmas.Bool.{OnTrue_from}
use Rattle.std.proofs.lemmas.Option.{get_or_from_slice_get}
use Rattle.hk_index.specs.declared.timed_row.TimedRow.{TimedRow}
use Rattle.hk_index.proofs.TimedLists.{one_more}
use Rattle.hk_index.proofs.timed_rows.stays_ordered.Goals as goal

pub returns-in-Some : goal.returns-in-Some
returns-in-Some c = OnTrue_from _ _ (λ le.
    one_more c.args.rows.now c.args.ordered c.args.timed.now c.requires c.if-ordered-rows.true
    (λ d some. subst (λ (t : TimedRow). t.time ≤ c.args.timed.now.time) (sym (get_or_from_slice_get c.args.rows.now _ c.in-Some.last.now d (sym c.in-Some.ensures.value))) (leb-true _ _ le)))
