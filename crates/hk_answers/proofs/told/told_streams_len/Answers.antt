use Rattle.std.proofs.Common.{◌≡◌, length, get_or, arith, ap, subst, All}
use Rattle.std.proofs.lemmas.List.{take_all}
use Rattle.std.proofs.lemmas.List.Elements.{All-more}
use Rattle.hk_answers.proofs.Lengths.{one_longer}
use Rattle.hk_answers.specs.Told.{told_text, ToldFits}
use Rattle.hk_answers.proofs.told.told_streams_len.Goals as goal

pub loop-told-preserved : goal.loop-told-preserved
loop-told-preserved c =
    let more = one_longer told_text c.args.streams.now c.loop-told.told-index c.told-item.result c.loop-told-test.true in
    let here : length (told_text c.told-item.result) ≡ length (told_text (get_or c.args.streams.now c.loop-told.told-index c.told-item.result)) = ap (λ e. length (told_text e)) c.told-item.is in (
      omega (arith, more, here, c.loop-told.invariant.0, c.told_len-total.ensures.len),
      omega (arith, c.loop-told.invariant.1, c.told_len-total.ensures.bound),
      All-more ToldFits c.args.streams.now c.loop-told.told-index c.told-item.result c.loop-told-test.true c.loop-told.invariant.2 (subst ToldFits c.told-item.is c.told_len-total.ensures.fits),
    )

pub returns-clause-fits : goal.returns-clause-fits
returns-clause-fits c = subst (All ToldFits) (take_all c.loop-told.told-index c.args.streams.now c.loop-told-test.false) c.loop-told.invariant.2
