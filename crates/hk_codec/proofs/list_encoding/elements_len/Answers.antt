use Rattle.std.proofs.Common.{◌≡◌, length, get_or, arith, ap, subst, All}
use Rattle.std.proofs.lemmas.List.{take_all}
use Rattle.std.proofs.lemmas.List.Elements.{All-more}
use Rattle.hk_codec.proofs.Lengths.{one_longer}
use Rattle.hk_codec.proofs.list_encoding.elements_len.Goals as goal

pub loop-element-preserved : goal.loop-element-preserved
loop-element-preserved g c =
    let more = one_longer g.E.Elements.text c.args.elements.now c.loop-element.element-index c.element-item.result c.loop-element-test.true in
    let here : length (g.E.Elements.text c.element-item.result) ≡ length (g.E.Elements.text (get_or c.args.elements.now c.loop-element.element-index c.element-item.result)) = ap (λ x. length (g.E.Elements.text x)) c.element-item.is in (
      omega (arith, more, here, c.loop-element.invariant.0, c.len_of-total.ensures.len),
      omega (arith, c.loop-element.invariant.1, c.len_of-total.ensures.most),
      All-more g.E.Elements.Fits c.args.elements.now c.loop-element.element-index c.element-item.result c.loop-element-test.true c.loop-element.invariant.2 (subst g.E.Elements.Fits c.element-item.is c.len_of-total.ensures.fits),
    )

pub returns-clause-fits : goal.returns-clause-fits
returns-clause-fits g c = subst (All g.E.Elements.Fits) (take_all c.loop-element.element-index c.args.elements.now c.loop-element-test.false) c.loop-element.invariant.2
