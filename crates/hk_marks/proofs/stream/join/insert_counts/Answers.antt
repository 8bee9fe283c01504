use Rattle.std.proofs.Common.{ap, ◌∙◌, List, ℕ, None, Some, cond, get_or}
use Rattle.std.specs.BTreeMap.{is_at}
use Rattle.std.specs.BTreeMap as tree
use Rattle.std.specs.Ordering.{nat_cmp}
use Rattle.std.specs.Map.{lookup}
use Rattle.hk_marks.proofs.RoomForMore.{of_error, taken_back, more_of, of_ok}
use Rattle.hk_marks.proofs.stream.join.insert_counts.Goals as goal

pub returns-then-is_err-clause-err : goal.returns-then-is_err-clause-err
returns-then-is_err-clause-err c = λ q.
    let same = of_error c.insert.result c.if-is_err.ensures.value c.insert.ensures.err in
    taken_back _ _ q None (Some 0) _ _ _ (c.remove_counts.ensures q) (ap (λ (ks : List (ℕ × ℕ)). lookup (is_at (nat_cmp q)) ks) same ∙ c.loop-count.invariant q) (c.requires q)

pub loop-count-preserved : goal.loop-count-preserved
loop-count-preserved c = λ q. more_of c.args.counts.now c.loop-count.count-index q (Some 0) _ _ _ c.loop-count-test.true
    ((of_ok c.insert.result c.if-is_err.ensures.value c.insert.ensures.updates).0 q
    ∙ ap (λ (v : ℕ). cond (is_at (nat_cmp (get_or c.args.counts.now c.loop-count.count-index 0)) q) (Some v) (tree.get nat_cmp c.loop-count.waiting q)) c.zero.ensures) (c.loop-count.invariant q)
