use Rattle.std.proofs.Common.{sym, ap, ◌∙◌, inl, inr, length}
use Rattle.std.proofs.lemmas.Result.{err_from_is_err_and}
use Rattle.hk_fragment.specs.Parts.{fragment_seen, fragment_fault}
use Rattle.hk_delta.specs.Versions.{told, contradict}
use Rattle.hk_state.proofs.WrongLogs.{count_streams}
use Rattle.hk_delta.proofs.GatheredWhole.{items_told, items_contradict, list_faultless, list_is}
use Rattle.hk_delta.proofs.gathering.gather.Goals as goal

pub returns-in_err-versions-clause-err : goal.returns-in_err-versions-clause-err
returns-in_err-versions-clause-err c =
    let p = err_from_is_err_and c.from_residual-in_err-versions.result c.from_residual-in_err-versions.ensures.1 in
    rw (p.1, p.2) (elim c.in_err-versions.ensures.err [
      | inl m ↦ inl m
      | inr e ↦ inr (e.0, sym (ap contradict c.in_ok-facts_of.ensures ∙ items_contradict c.args.items.now) ∙ e.1)
    ])

pub of_parts-requires-clause-many : goal.of_parts-requires-clause-many
of_parts-requires-clause-many c = ap length c.in_ok-got.ensures.ok ∙ count_streams c.args.config.streams c.args.items.now

pub of_parts-requires-clause-faultless : goal.of_parts-requires-clause-faultless
of_parts-requires-clause-faultless c =
    let items = c.args.items.now in
    let es = c.in_ok-versions.versions.items in
    let says = ap told c.in_ok-facts_of.ensures ∙ items_told items in
    (λ i. fragment_fault (c.zero-beginning.ensures i) (c.zero-beginning.ensures i) (c.in_ok-got.ensures.ok i) es)
    ∙ list_faultless c.args.config items c.in_ok-got.ensures.lawful (told c.in_ok-facts_of.field-0.items) says es c.in_ok-versions.ensures.versions

pub returns-clause-ok : goal.returns-clause-ok
returns-clause-ok c =
    let items = c.args.items.now in
    let es = c.in_ok-versions.versions.items in
    let says = ap told c.in_ok-facts_of.ensures ∙ items_told items in
    c.of_parts.ensures
    ∙ (λ i. fragment_seen c.args.config (c.zero-beginning.ensures i) (c.zero-beginning.ensures i) (c.in_ok-got.ensures.ok i) es)
    ∙ list_is c.args.config items c.in_ok-got.ensures.lawful (told c.in_ok-facts_of.field-0.items) says es c.in_ok-versions.ensures.versions

pub returns-clause-agree : goal.returns-clause-agree
returns-clause-agree c = sym (ap contradict c.in_ok-facts_of.ensures ∙ items_contradict c.args.items.now) ∙ c.in_ok-versions.ensures.agree
