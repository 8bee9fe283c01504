use Rattle.std.proofs.Common.{◌+◌, ◌∙◌, sym, take, arith}
use Rattle.hk_facts.proofs.ListedVersions.{list_in_turn, look, look_before, look_more, none_in_turn, one_more_in_turn, told_not_less}
use Rattle.hk_facts.proofs.list.are_in_turn.Goals as goal

pub loop-born-init : goal.loop-born-init
loop-born-init c = none_in_turn _

pub loop-born-preserved : goal.loop-born-preserved
loop-born-preserved c =
    let es = c.args.list.now in
    let i = c.loop-born.born-index in
    let e = c.loop-born-item.result in
    one_more_in_turn (λ q. look q (take i es)) (λ q. look q (take (i + 1) es)) e c.loop-born.latest c.later_end-latest.result
    (λ q. look_more es i e c.requires c.loop-born-test.true c.loop-born-item.is q) (λ q some. look_before es i e c.requires c.loop-born-test.true c.loop-born-item.is q some)
    (told_not_less e.0 c.loop-born.latest (sym c.lt.ensures ∙ c.if-lt.false)) c.later_end-latest.ensures.rises c.later_end-latest.ensures.ended c.loop-born.invariant

pub returns : goal.returns
returns c = list_in_turn c.args.list.now c.loop-born.born-index c.loop-born.latest (omega arith) c.loop-born.invariant
