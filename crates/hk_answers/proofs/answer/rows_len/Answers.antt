use Rattle.std.proofs.Common.{◌≡◌, length, get_or, arith, ap, subst, All}
use Rattle.std.proofs.lemmas.List.{take_all}
use Rattle.std.proofs.lemmas.List.Elements.{All-more}
use Rattle.hk_answers.specs.Answers.{KeyedFits}
use Rattle.hk_answers.proofs.Lengths.{rows_more}
use Rattle.hk_answers.proofs.answer.rows_len.Goals as goal

pub loop-row-preserved : goal.loop-row-preserved
loop-row-preserved c =
    let more = rows_more c.args.rows.now c.loop-row.row-index c.row-item.result c.loop-row-test.true in
    let body : length c.row-item.result.1.body ≡ length (get_or c.args.rows.now c.loop-row.row-index c.row-item.result).1.body = ap (λ r. length r.1.body) c.row-item.is in
    let here = c.keyed_len-total.ensures.len in
    let most = c.keyed_len-total.ensures.fits.1.body in (
      omega (arith, more, body, c.loop-row.invariant.0),
      omega (arith, c.loop-row.invariant.1),
      All-more KeyedFits c.args.rows.now c.loop-row.row-index c.row-item.result c.loop-row-test.true c.loop-row.invariant.2 (subst KeyedFits c.row-item.is c.keyed_len-total.ensures.fits),
    )

pub returns-clause-fits : goal.returns-clause-fits
returns-clause-fits c = subst (All KeyedFits) (take_all c.loop-row.row-index c.args.rows.now c.loop-row-test.false) c.loop-row.invariant.2
