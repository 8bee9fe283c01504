use Rattle.std.proofs.Common.{◌≡◌, All, ap, arith, length, subst}
use Rattle.std.specs.List.{flat_map}
use Rattle.std.proofs.lemmas.List.Elements.{recursion_from_All}
use Rattle.hk_answers.specs.Answers.{keyed_text, KeyedFits}
use Rattle.hk_model.specs.Replica.Pages.{page_seen}
use Rattle.hk_answers.proofs.ToldLengths.{page_text_len}
use Rattle.hk_answers.proofs.told.page_len.Goals as goal

pub returns-clause-len : goal.returns-clause-len
returns-clause-len c =
    let same : length (flat_map keyed_text c.deref.result.now) ≡ length (flat_map keyed_text c.args.page.now.rows.items) = ap (λ rows. length (flat_map keyed_text rows)) c.deref.ensures.value in
    let all = page_text_len (page_seen c.args.page.now) in
    omega (arith, all, same, c.rows_len.ensures.len)

pub returns-clause-fits : goal.returns-clause-fits
returns-clause-fits c = recursion_from_All KeyedFits c.args.page.now.rows.items (subst (All KeyedFits) c.deref.ensures.value c.rows_len.ensures.fits)
