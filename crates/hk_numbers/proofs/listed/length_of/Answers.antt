use Rattle.std.proofs.Common.{◌∙◌, refl, arith}
use Rattle.std.proofs.lemmas.Map.Iter.{btree_map_turn}
use Rattle.std.specs.Cmp.{nat_cmp_total}
use Rattle.std.specs.Map.Iter.{deref_pair}
use Rattle.hk_numbers.proofs.ListedRuns.{next_counted, few, listed_rises}
use Rattle.hk_numbers.proofs.listed.length_of.Goals as goal

pub overflow_sub-count : goal.overflow_sub-count
overflow_sub-count c =
    let turn = btree_map_turn deref_pair c.loop-first.yielded _ _ _ c.next.result (c.in-Some.first, c.in-Some.end) c.loop-first.yielded_by c.in-Some.is c.next.ensures.steps nat_cmp_total c.args.runs.now (c.into_iter-first-iterator.ensures.into_iter_gives ∙ c.iter-each.ensures.rest) c.iter-each.ensures.ordered in
    (c.requires.proper.whole _ _ turn.1).0

pub overflow_add-count : goal.overflow_add-count
overflow_add-count c =
    let n = next_counted _ _ _ _ c.in-Some.ensures.steps in
    let i = c.loop-first.invariant in
    let f = few c.args.runs.now c.requires c.iter-each.ensures.found in
    omega arith

pub loop-first-preserved : goal.loop-first-preserved
loop-first-preserved c =
    let n = next_counted _ _ _ _ c.in-Some.ensures.steps in
    let i = c.loop-first.invariant in
    omega arith

pub returns-clause-rising : goal.returns-clause-rising
returns-clause-rising c = listed_rises c.args.runs.now c.requires c.args.runs.now.entries refl c.iter-each.ensures.found
