use Rattle.std.proofs.Common.{◌≡◌, arith, ap, sym, subst, ◌∙◌}
use Rattle.std.proofs.lemmas.Bool.{eqb-true, not-false}
use Rattle.std.proofs.lemmas.List.Elements.{All-more}
use Rattle.hk_codec.proofs.list_encoding.run_of.Goals as goal

pub loop-element-preserved : goal.loop-element-preserved
loop-element-preserved g c =
    let here : (g.E.Elements.place c.element-item.result).0 ≡ c.args.table = ap (λ p. p.0) (sym c.place_of-here.ensures) ∙ eqb-true _ _ (not-false _ (sym c.ne.ensures ∙ c.if-ne.false)) in
    (omega (arith, c.loop-element.invariant.0), All-more (λ x. (g.E.Elements.place x).0 ≡ c.args.table) c.args.elements.now c.loop-element.element-index c.element-item.result c.loop-element-test.true c.loop-element.invariant.1 (subst (λ x. (g.E.Elements.place x).0 ≡ c.args.table) c.element-item.is here))
