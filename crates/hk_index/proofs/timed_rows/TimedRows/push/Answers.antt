use Rattle.std.proofs.Common.{sym, ap, ◌∙◌, subst, ◌++◌, ◌∷◌, [], List}
use Rattle.std.specs.FinSet as set
use Rattle.std.specs.List.Sorted.{IsNonDecreasingBy}
use Rattle.hk_index.specs.declared.timed_row.TimedRow.{TimedRow}
use Rattle.hk_index.specs.Timed.{IsOrdered, timed_cmp}
use Rattle.hk_index.proofs.TimedLists.{all_ordered, more_ordered, pushed}
use Rattle.hk_index.proofs.timed_rows.TimedRows.push.Goals as goal

pub invariant_of-self-then-in_order : goal.invariant_of-self-then-in_order
invariant_of-self-then-in_order c =
    all_ordered c.push.new.self.items c.len-self-inside.result (c.len-self-inside.ensures ∙ c.push.new.self.ok.0)
    (subst (IsNonDecreasingBy (λ (t : TimedRow). t.time)) (ap (λ (l : List TimedRow). l ++ c.args.timed ∷ []) c.deref.ensures.value ∙ sym c.in_ok-push.ensures.items) c.if-in_order.ensures)

pub returns-then-in_order-clause-ok : goal.returns-then-in_order-clause-ok
returns-then-in_order-clause-ok c =
    ap (λ (l : List TimedRow). set.from_list {R = timed_cmp} l) c.in_ok-push.ensures.items ∙ pushed c.self.inside.rows.items c.args.timed ∙ ap (λ s. set.insert s c.args.timed) c.self.view_is

pub invariant_of-self-else-in_order : goal.invariant_of-self-else-in_order
invariant_of-self-else-in_order c = subst (λ (l : List TimedRow). IsOrdered l c.self.inside.ordered) (sym c.in_ok-push.ensures.items) (more_ordered c.self.inside.rows.items c.args.timed c.self.inside.ordered c.self.invariant)

pub returns-else-in_order-clause-ok : goal.returns-else-in_order-clause-ok
returns-else-in_order-clause-ok c =
    ap (λ (l : List TimedRow). set.from_list {R = timed_cmp} l) c.in_ok-push.ensures.items ∙ pushed c.self.inside.rows.items c.args.timed ∙ ap (λ s. set.insert s c.args.timed) c.self.view_is
