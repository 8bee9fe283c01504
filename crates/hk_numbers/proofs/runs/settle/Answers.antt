use Rattle.std.proofs.Common.{inl, inr}
use Rattle.std.proofs.lemmas.Map.Iter.{btree_map_turn}
use Rattle.std.specs.Cmp.{nat_cmp_total}
use Rattle.std.specs.Map.Iter.{deref_pair}
use Rattle.hk_numbers.proofs.JoinedRuns.{all_listed, joins_more, all_joined}
use Rattle.hk_numbers.proofs.runs.settle.Goals as goal

pub loop-first-init : goal.loop-first-init
loop-first-init c = record {
  runs = c.requires.runs;
  apart = c.requires.apart;
  room = c.requires.room;
  only = λ q h. inl h;
  kept = λ q h. h;
  added = λ q h. inr (all_listed c.args.others.now c.requires.others c.into_iter-first-iterator.result c.into_iter-first-iterator.ensures.into_iter_gives.0 q h);
}

pub settle_run-requires-clause-room : goal.settle_run-requires-clause-room
settle_run-requires-clause-room c =
    let turn = btree_map_turn deref_pair c.loop-first.yielded _ _ _ c.next.result (c.in-Some.first, c.in-Some.end) c.loop-first.yielded_by c.in-Some.is c.next.ensures.steps nat_cmp_total c.args.others.now c.into_iter-first-iterator.ensures.into_iter_gives.0 c.into_iter-first-iterator.ensures.into_iter_gives.5 in
    λ some. c.loop-first.invariant.room _ _ turn.1 some

pub settle_run-requires-clause-most : goal.settle_run-requires-clause-most
settle_run-requires-clause-most c =
    let turn = btree_map_turn deref_pair c.loop-first.yielded _ _ _ c.next.result (c.in-Some.first, c.in-Some.end) c.loop-first.yielded_by c.in-Some.is c.next.ensures.steps nat_cmp_total c.args.others.now c.into_iter-first-iterator.ensures.into_iter_gives.0 c.into_iter-first-iterator.ensures.into_iter_gives.5 in
    (c.requires.others.whole _ _ turn.1).1

pub loop-first-preserved : goal.loop-first-preserved
loop-first-preserved c =
    let turn = btree_map_turn deref_pair c.loop-first.yielded _ _ _ c.next.result (c.in-Some.first, c.in-Some.end) c.loop-first.yielded_by c.in-Some.is c.next.ensures.steps nat_cmp_total c.args.others.now c.into_iter-first-iterator.ensures.into_iter_gives.0 c.into_iter-first-iterator.ensures.into_iter_gives.5 in
    let i = c.loop-first.invariant in
    let x = joins_more c.args.runs.now c.args.others.now _ _ _ _ _ _ c.in-Some.ensures.steps turn.1 c.settle_run.ensures.adds i.only i.kept i.added in
    record { runs = c.settle_run.ensures.runs; apart = c.settle_run.ensures.apart; room = λ a e there some. c.settle_run.ensures.room a (i.room a e there some); only = x.only; kept = x.kept; added = x.added }

pub returns-clause-unites : goal.returns-clause-unites
returns-clause-unites c =
    let i = c.loop-first.invariant in
    all_joined c.args.runs.now c.args.others.now _ _ c.in-None.ensures.steps.0 i.only i.kept i.added
