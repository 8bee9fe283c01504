use Rattle.std.proofs.Common.{◌∙◌, ◌≡◌, ◌++◌, sym, ap, ℕ, List, true, is_some, arith}
use Rattle.std.proofs.lemmas.Map.Iter.{btree_map_turn}
use Rattle.std.specs.Cmp.{nat_cmp_total}
use Rattle.std.specs.Ordering.{nat_cmp}
use Rattle.std.specs.BTreeMap as tree
use Rattle.std.specs.FinMap as finmap
use Rattle.std.specs.Map.Iter.{deref_pair}
use Rattle.hk_model.proofs.Replica.Streams.{later, told}
use Rattle.hk_model.specs.Replica.Streams.{stream_with}
use Rattle.hk_marks.specs.Seen.{waiting_seen}
use Rattle.hk_marks.proofs.StoredStreams.{get-waiting_seen}
use Rattle.hk_marks.proofs.JoinedStreams.{raised_closed, raised_waiting, same_counts, of_true, covered, only_mark}
use Rattle.hk_marks.proofs.stream.join.raise_marks.Goals as goal

pub raise_one-requires : goal.raise_one-requires
raise_one-requires c = λ above. c.requires c.in-Some.count.now (ap is_some c.in-Some.ensures.value) above

pub returns-in-Some-clause-settles : goal.returns-in-Some-clause-settles
returns-in-Some-clause-settles c = only_mark c.args.prefix _ _ c.args.waiting.now c.raise_one.new.waiting c.args.marks.now.entries _ _ (omega (arith, c.len.ensures.len)) c.in-Some.ensures.first c.raise_one.ensures

pub loop-count-preserved-then-count-prefix : goal.loop-count-preserved-then-count-prefix
loop-count-preserved-then-count-prefix c = record {
  settles = λ t law.
      raised_closed t _ _ _ _ (finmap.entries (waiting_seen c.loop-count.waiting)) c.next.new.self (covered t _ _ law c.if-count-prefix.true) c.close_up_to.ensures
      ∙ ap (λ (rest : List (ℕ × ℕ)). stream_with t c.loop-count.closed (finmap.entries (waiting_seen c.loop-count.waiting) ++ rest)) (sym c.in-Some-2.ensures.steps)
      ∙ c.loop-count.invariant.settles t law;
  same_counts = c.loop-count.invariant.same_counts;
}

pub loop-count-preserved : goal.loop-count-preserved
loop-count-preserved c =
    let turn = btree_map_turn deref_pair c.loop-count.yielded _ _ _ c.next.result (c.in-Some-2.count, c.in-Some-2.upto) c.loop-count.yielded_by c.in-Some-2.is c.next.ensures.steps nat_cmp_total c.args.marks.now c.into_iter-count-iterator.ensures.into_iter_gives.0 c.into_iter-count-iterator.ensures.into_iter_gives.5 in
    let there : is_some (tree.get nat_cmp c.loop-count.waiting c.in-Some-2.count.now) ≡ true = c.loop-count.invariant.same_counts _ ∙ c.requires c.in-Some-2.count.now (ap is_some turn.1) c.if-count-prefix.false in
    let found = of_true c.raise_waiting.result (c.raise_waiting.ensures.test ∙ there) c.raise_waiting.ensures.found in
    record {
      settles = λ t law.
          raised_waiting t c.loop-count.closed _ _ (waiting_seen c.loop-count.waiting) (waiting_seen c.raise_waiting.new.waiting) c.next.new.self
          (λ q. get-waiting_seen c.raise_waiting.new.waiting q ∙ found q ∙ ap (later (told (c.in-Some-2.count.now, c.in-Some-2.upto.now) q)) (sym (get-waiting_seen c.loop-count.waiting q)))
          ∙ ap (λ (rest : List (ℕ × ℕ)). stream_with t c.loop-count.closed (finmap.entries (waiting_seen c.loop-count.waiting) ++ rest)) (sym c.in-Some-2.ensures.steps)
          ∙ c.loop-count.invariant.settles t law;
      same_counts = λ q. same_counts _ _ c.loop-count.waiting c.raise_waiting.new.waiting there found q ∙ c.loop-count.invariant.same_counts q;
    }
