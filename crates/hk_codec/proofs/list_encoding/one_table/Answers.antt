use Rattle.std.proofs.Common.{◌≡◌, ap, sym, ◌∙◌}
use Rattle.std.proofs.lemmas.Bool.{eqb-true, not-false}
use Rattle.hk_codec.proofs.ListLoops.{one_run_only}
use Rattle.hk_codec.proofs.list_encoding.one_table.Goals as goal

pub returns : goal.returns
returns g c =
    let first : (g.E.Elements.place c.in_ok-first.first.now).0 ≡ c.place_of-table.result.0 = ap (λ p. p.0) (sym c.place_of-table.ensures) in
    let last : (g.E.Elements.place c.in_ok-last.last.now).0 ≡ c.place_of-last_table.result.0 = ap (λ p. p.0) (sym c.place_of-last_table.ensures) in
    let same : c.place_of-table.result.0 ≡ c.place_of-last_table.result.0 = eqb-true _ _ (not-false _ (sym c.ne.ensures ∙ c.if-ne.false)) in
    one_run_only g.E.Elements.place c.args.elements.now c.in_ok-first.first.now c.in_ok-last.last.now c.place_of-table.result.0 c.requires c.in_ok-first.ensures.value c.in_ok-last.ensures.value first (last ∙ sym same)
