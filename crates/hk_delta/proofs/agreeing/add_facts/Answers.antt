use Rattle.std.proofs.Common.{sym, ap, ◌∙◌, ◌∷◌, []}
use Rattle.hk_log.specs.declared.item.Item.{Item}
use Rattle.hk_state.specs.Items.{facts_with}
use Rattle.hk_state.proofs.ItemsInTurn.{with_mark}
use Rattle.hk_delta.proofs.agreeing.add_facts.Goals as goal

pub returns-in-Closed-clause-ok : goal.returns-in-Closed-clause-ok
returns-in-Closed-clause-ok c = sym (with_mark c.args.facts.now c.in-Closed.field-0) ∙ ap (λ (x : Item). facts_with c.args.facts.now (x ∷ [])) (sym c.in-Closed.is)
