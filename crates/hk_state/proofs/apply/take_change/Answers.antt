use Rattle.std.proofs.Common.{sym, ap, ◌∙◌}
use Rattle.hk_store.specs.Changes.{with_listed, meets}
use Rattle.hk_store.specs.Drops.{without_all}
use Rattle.hk_store.proofs.ReplacedFacts.{replaced_apart}
use Rattle.hk_state.proofs.apply.take_change.Goals as goal

pub returns-clause-facts : goal.returns-clause-facts
returns-clause-facts c =
    let f = c.args.facts.now in
    let k = c.args.change in
    c.drop_all.ensures
    ∙ (λ i. without_all (c.in_ok-grow.ensures.facts i) (c.deref-5.ensures.value i))
    ∙ ap (λ es. without_all (with_listed f k.rows.items es) k.drops.items) c.deref-4.ensures.value
    ∙ replaced_apart f k.drops.items k.rows.items k.ends.items (
    (λ i. meets (sym c.deref.ensures.value i) (sym c.deref-2.ensures.value i) (sym c.deref-3.ensures.value i))
    ∙ sym c.in_ok-meets.ensures.ok ∙ c.if-branch.false)
