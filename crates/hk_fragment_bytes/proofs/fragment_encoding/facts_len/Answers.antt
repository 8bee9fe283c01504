use Rattle.std.proofs.Common.{◌≡◌, length, get_or, arith, ap, subst, All}
use Rattle.std.proofs.lemmas.List.{take_all}
use Rattle.std.proofs.lemmas.List.Elements.{All-more}
use Rattle.hk_fragment_bytes.specs.Fragments.{fact_text, KnownFits}
use Rattle.hk_answers.proofs.Lengths.{one_longer}
use Rattle.hk_fragment_bytes.proofs.fragment_encoding.facts_len.Goals as goal

pub loop-fact-preserved : goal.loop-fact-preserved
loop-fact-preserved c =
    let more = one_longer fact_text c.args.facts.now c.loop-fact.fact-index c.fact-item.result c.loop-fact-test.true in
    let here : length (fact_text c.fact-item.result) ≡ length (fact_text (get_or c.args.facts.now c.loop-fact.fact-index c.fact-item.result)) = ap (λ e. length (fact_text e)) c.fact-item.is in (
      omega (arith, more, here, c.loop-fact.invariant.0, c.fact_len-total.ensures.len),
      omega (arith, c.loop-fact.invariant.1, c.fact_len-total.ensures.bound),
      All-more KnownFits c.args.facts.now c.loop-fact.fact-index c.fact-item.result c.loop-fact-test.true c.loop-fact.invariant.2 (subst KnownFits c.fact-item.is c.fact_len-total.ensures.fits),
    )

pub returns-clause-fits : goal.returns-clause-fits
returns-clause-fits c = subst (All KnownFits) (take_all c.loop-fact.fact-index c.args.facts.now c.loop-fact-test.false) c.loop-fact.invariant.2
