use Rattle.std.proofs.Common.{sym, ◌∙◌, subst}
use Rattle.std.proofs.lemmas.List.Filters.{dedup_is}
use Rattle.std.proofs.lemmas.List.Kept.{IsStrictlySortedBy-dedup}
use Rattle.std.specs.FinSet as set
use Rattle.std.specs.List.Sorted.{IsStrictlySortedBy}
use Rattle.hk_index.specs.Timed.{timed_cmp}
use Rattle.hk_index.proofs.Once.{sorted_once}
use Rattle.hk_index.proofs.TimedLists.{equal_ties, sorted_ordered, succeeded, timed_same, timed_total}
use Rattle.hk_index.proofs.timed_rows.TimedRows.sort.Goals as goal

pub invariant_of-self : goal.invariant_of-self
invariant_of-self c =
    sorted_ordered c.dedup.new.self.items c.len-self-inside.result (c.len-self-inside.ensures ∙ c.dedup.new.self.ok.0)
    (subst (IsStrictlySortedBy timed_cmp) (sym (dedup_is _ c.sort.new.self.items _ c.dedup.ensures.filtered)) (IsStrictlySortedBy-dedup timed_total equal_ties c.sort.new.self.items (succeeded c.sort.result c.if-is_ok.ensures.value c.sort.ensures.sorted)))

pub returns-then-is_ok : goal.returns-then-is_ok
returns-then-is_ok c =
    set.same_set timed_total timed_same _ _ (λ q.
    set.contains-from_list timed_total c.dedup.new.self.items q
    ∙ sorted_once timed_cmp timed_same _ equal_ties c.self.inside.rows.items c.sort.new.self.items c.dedup.new.self.items c.sort.ensures.permutation (dedup_is _ c.sort.new.self.items _ c.dedup.ensures.filtered) q
    ∙ sym (set.contains-from_list timed_total c.self.inside.rows.items q)) ∙ c.self.view_is
