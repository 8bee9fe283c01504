use Rattle.std.proofs.Common.{◌∙◌, ◌<◌, sym, subst, ap, ℕ, cond, None, Some, List, true≢false, arith}
use Rattle.std.specs.Ordering.{nat_cmp}
use Rattle.std.specs.BTreeMap as tree
use Rattle.std.specs.FinSet as set
use Rattle.hk_numbers.specs.Runs.{numbers_seen}
use Rattle.hk_marks.specs.Seen.{taken_seen}
use Rattle.hk_marks.specs.Parts.{has_number}
use Rattle.hk_marks.proofs.StoredStreams.{covers_seen}
use Rattle.std.proofs.lemmas.List.Elements.{All-cons, All-head, All-tail, All-take, All-drop}
use Rattle.hk_marks.specs.Steps.{IsInOrder}
use Rattle.hk_marks.proofs.Readers.{alike_seen, no_extras}
use Rattle.hk_marks.proofs.RoomForMore.{is_lacking, has_all, counts_back, on_error}
use Rattle.hk_marks.proofs.JoinedStreams.{settled_together}
use Rattle.hk_marks.proofs.GoneOn.{joined_alike}
use Rattle.hk_marks.proofs.stream.Stream.+join_with.Goals as goal

pub insert_counts-requires : goal.insert_counts-requires
insert_counts-requires t c = λ q m. (is_lacking c.greater-covered.result c.self.inside.waiting c.other.inside.waiting c.in_ok-counts.counts.items c.in_ok-counts.ensures.lacking q (ap (λ (xs : List ℕ). has_number xs q) (sym c.deref.ensures.value) ∙ m)).0

pub returns-in_err-insert_counts-clause-err : goal.returns-in_err-insert_counts-clause-err
returns-in_err-insert_counts-clause-err t c =
    on_error c.from_residual-in_err-insert_counts.result
    (rw (← c.self.view_is) (alike_seen _ _ _ _ _ _ (λ q. ap (λ (s : set.FinSet nat_cmp). set.contains s q) c.make_room_for.ensures.same) c.in_err-insert_counts.ensures.err))

pub returns-in-Err-clause-err : goal.returns-in-Err-clause-err
returns-in-Err-clause-err t c =
    rw (← c.self.view_is) (alike_seen _ _ _ _ _ _ (λ q. ap (λ (s : set.FinSet nat_cmp). set.contains s q) c.make_room_for.ensures.same)
    (λ q. counts_back c.in_ok-counts.counts.items q _ _ _
    (c.remove_counts.ensures q ∙ ap (λ (xs : List ℕ). cond (has_number xs q) None (tree.get nat_cmp c.insert_counts.new.waiting q)) c.deref-in-Err.ensures.value)
    (c.in_ok-insert_counts.ensures.ok q ∙ ap (λ (xs : List ℕ). cond (has_number xs q) (Some 0) (tree.get nat_cmp c.self.inside.waiting q)) c.deref.ensures.value)
    (λ m. (is_lacking c.greater-covered.result c.self.inside.waiting c.other.inside.waiting c.in_ok-counts.counts.items c.in_ok-counts.ensures.lacking q m).0)))

pub raise_marks-requires : goal.raise_marks-requires
raise_marks-requires t c = λ q e above.
    let beyond : c.greater-covered.result < q = omega (arith, c.take_numbers.ensures.grows, c.take_numbers.ensures.reaches, c.greater-covered.ensures) in
    has_all c.greater-covered.result c.self.inside.waiting c.other.inside.waiting c.insert_counts.new.waiting c.in_ok-counts.counts.items c.in_ok-counts.ensures.lacking
    (λ q. c.in_ok-insert_counts.ensures.ok q ∙ ap (λ (xs : List ℕ). cond (has_number xs q) (Some 0) (tree.get nat_cmp c.self.inside.waiting q)) c.deref.ensures.value) q e beyond

pub returns-clause-ok : goal.returns-clause-ok
returns-clause-ok t c =
    let law = covers_seen _ _ c.take_numbers.ensures.extras in
    rw (← c.self.view_is, ← c.other.view_is) (settled_together c.self.inside.prefix (numbers_seen c.self.inside.extra) c.self.inside.closed c.self.inside.waiting c.insert_counts.new.waiting c.in_ok-counts.counts.items c.other.inside.prefix (numbers_seen c.other.inside.extra) c.other.inside.closed c.other.inside.waiting
    (λ q. c.in_ok-insert_counts.ensures.ok q ∙ ap (λ (xs : List ℕ). cond (has_number xs q) (Some 0) (tree.get nat_cmp c.self.inside.waiting q)) c.deref.ensures.value)
    (λ q m. let l = is_lacking c.greater-covered.result c.self.inside.waiting c.other.inside.waiting c.in_ok-counts.counts.items c.in_ok-counts.ensures.lacking q m in (l.0, l.1))
    _ _ _ _ _ _ _
    (c.take_numbers.ensures.taken ∙ ap (λ (s : set.FinSet nat_cmp). set.union (taken_seen c.self.inside.prefix s) (taken_seen c.numbers_beside-upto.result.0 (numbers_seen c.numbers_beside-upto.result.1.now))) c.make_room_for.ensures.same ∙ joined_alike _ _ _ _ c.numbers_beside-upto.ensures.same)
    c.close_up_to.ensures c.raise_marks.ensures.rising (c.raise_marks.ensures.settles _ law) (c.settle.ensures.settles _ law))

pub returns-in_err-make_room_for-clause-in_order : goal.returns-in_err-make_room_for-clause-in_order
returns-in_err-make_room_for-clause-in_order t c = λ all.
    let order = subst IsInOrder (sym c.other.view_is) (All-head IsInOrder _ _ all) in
    absurd (true≢false (sym (c.in_err-make_room_for.ensures.none (c.numbers_beside-upto.ensures.in_order (no_extras _ _ c.other.inside.closed c.other.inside.waiting c.other.invariant.stored.extras order)))))

pub returns-in_err-counts-clause-in_order : goal.returns-in_err-counts-clause-in_order
returns-in_err-counts-clause-in_order t c = λ all.
    let order = subst IsInOrder (sym c.other.view_is) (All-head IsInOrder _ _ all) in
    absurd (c.in_err-counts.ensures.none order.1)

pub returns-in_err-insert_counts-clause-in_order : goal.returns-in_err-insert_counts-clause-in_order
returns-in_err-insert_counts-clause-in_order t c = λ all.
    let order = subst IsInOrder (sym c.other.view_is) (All-head IsInOrder _ _ all) in
    absurd (c.in_err-insert_counts.ensures.none (c.deref.ensures.value ∙ c.in_ok-counts.ensures.none order.1))

pub returns-in-Err-clause-in_order : goal.returns-in-Err-clause-in_order
returns-in-Err-clause-in_order t c = λ all.
    let rest = All-tail IsInOrder _ _ all in
    c.in-Err.ensures.in_order (All-cons IsInOrder c.index-others-0.result _ (subst IsInOrder (sym c.index-others-0.is) (rest 0 c.index-others-0.result (omega arith))) (All-take IsInOrder _ _ (All-drop IsInOrder 1 _ rest)))
