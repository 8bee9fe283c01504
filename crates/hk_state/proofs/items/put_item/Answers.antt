use Rattle.std.proofs.Common.{Bool, sym, ap, subst, ◌∙◌, ◌∷◌, [], IfErr}
use Rattle.hk_log.specs.declared.item.Item.{Item}
use Rattle.hk_store.specs.Facts.{conflicts_with_entry}
use Rattle.hk_state.specs.Items.{RefusesWhere, facts_with, item_conflicts}
use Rattle.hk_state.proofs.ItemsInTurn.{refused_where, with_mark}
use Rattle.hk_state.proofs.items.put_item.Goals as goal

pub returns-in_ok-copied-in-Commit-clause-err : goal.returns-in_ok-copied-in-Commit-clause-err
returns-in_ok-copied-in-Commit-clause-err c =
    let f = c.args.facts.now in
    subst (λ (b : Bool). IfErr c.put_writes.result (RefusesWhere b)) (ap (conflicts_with_entry f) c.in_ok-copied-in-Commit.ensures ∙ ap (item_conflicts f) (sym c.in-Commit.is))
    (refused_where _ c.put_writes.result c.put_writes.ensures.err)

pub returns-in-Closed-clause-ok : goal.returns-in-Closed-clause-ok
returns-in-Closed-clause-ok c = sym (with_mark c.args.facts.now c.in-Closed.field-0) ∙ ap (λ (x : Item). facts_with c.args.facts.now (x ∷ [])) (sym c.in-Closed.is)
