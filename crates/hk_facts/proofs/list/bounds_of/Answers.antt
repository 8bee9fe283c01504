use Rattle.std.proofs.Common.{◌+◌, sym, take, arith}
use Rattle.hk_facts.proofs.ListedVersions.{list_bounded, look, look_more, one_more_bounded}
use Rattle.hk_facts.proofs.list.bounds_of.Goals as goal

pub loop-born-init : goal.loop-born-init
loop-born-init c = c.none-bounds.ensures

pub loop-born-preserved : goal.loop-born-preserved
loop-born-preserved c =
    let es = c.args.list.now in
    let i = c.loop-born.born-index in
    let e = c.loop-born-item.result in
    let next = c.with-bounds in
    one_more_bounded (λ q. look q (take i es)) (λ q. look q (take (i + 1) es)) e c.loop-born.bounds next.result
    (λ q. look_more es i e c.requires c.loop-born-test.true c.loop-born-item.is q) next.ensures.births next.ensures.born next.ensures.ends (rw (sym c.died.ensures.value) next.ensures.died) c.loop-born.invariant

pub returns : goal.returns
returns c = list_bounded c.args.list.now c.loop-born.born-index c.loop-born.bounds (omega arith) c.loop-born.invariant
