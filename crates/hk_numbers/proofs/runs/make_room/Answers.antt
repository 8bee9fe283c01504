use Rattle.std.proofs.Common.{inr, arith}
use Rattle.std.proofs.lemmas.Map.Iter.{btree_map_turn}
use Rattle.std.specs.Cmp.{nat_cmp_total}
use Rattle.std.specs.Map.Iter.{deref_pair}
use Rattle.hk_numbers.proofs.JoinedRuns.{all_begin, room_more, room_all, on_error, some_there}
use Rattle.hk_numbers.proofs.runs.make_room.Goals as goal

pub loop-first-init : goal.loop-first-init
loop-first-init c = record {
  runs = c.requires.runs;
  apart = c.requires.apart;
  same = record { only = λ q h. h; kept = λ q h. h };
  room = λ a e there _. inr (all_begin c.args.others.now c.into_iter-first-iterator.result c.into_iter-first-iterator.ensures.into_iter_gives.0 a e there);
}

pub make_room_at-requires-clause-most : goal.make_room_at-requires-clause-most
make_room_at-requires-clause-most c =
    let turn = btree_map_turn deref_pair c.loop-first.yielded _ _ _ c.next.result (c.in-Some.first, c.in-Some.end) c.loop-first.yielded_by c.in-Some.is c.next.ensures.steps nat_cmp_total c.args.others.now c.into_iter-first-iterator.ensures.into_iter_gives.0 c.into_iter-first-iterator.ensures.into_iter_gives.5 in
    let w = c.requires.others.whole _ _ turn.1 in
    omega arith

pub loop-first-preserved : goal.loop-first-preserved
loop-first-preserved c =
    let i = c.loop-first.invariant in
    let s = c.make_room_at.ensures.same in
    let turn = btree_map_turn deref_pair c.loop-first.yielded _ _ _ c.next.result (c.in-Some.first, c.in-Some.end) c.loop-first.yielded_by c.in-Some.is c.next.ensures.steps nat_cmp_total c.args.others.now c.into_iter-first-iterator.ensures.into_iter_gives.0 c.into_iter-first-iterator.ensures.into_iter_gives.5 in
    record {
      runs = c.make_room_at.ensures.runs;
      apart = c.make_room_at.ensures.apart;
      same = record { only = λ q h. i.same.only q (s.only q h); kept = λ q h. s.kept q (i.same.kept q h) };
      room = room_more c.args.others.now _ _ _ _ _ _ c.in-Some.ensures.steps turn.1 c.in_ok-make_room_at.ensures.ok c.make_room_at.ensures.room i.room;
    }

pub returns-clause-ok : goal.returns-clause-ok
returns-clause-ok c = room_all c.args.others.now _ _ c.in-None.ensures.steps.0 c.loop-first.invariant.room

pub returns-in_err-make_room_at-clause-none : goal.returns-in_err-make_room_at-clause-none
returns-in_err-make_room_at-clause-none c =
    let turn = btree_map_turn deref_pair c.loop-first.yielded _ _ _ c.next.result (c.in-Some.first, c.in-Some.end) c.loop-first.yielded_by c.in-Some.is c.next.ensures.steps nat_cmp_total c.args.others.now c.into_iter-first-iterator.ensures.into_iter_gives.0 c.into_iter-first-iterator.ensures.into_iter_gives.5 in
    on_error c.from_residual.result (some_there c.args.others.now _ _ turn.1 c.in_err-make_room_at.ensures.none)
