use Rattle.std.proofs.Common.{◌∙◌, ap, subst}
use Rattle.hk_model.specs.Replica.Answers.{visible}
use Rattle.hk_chains.specs.Facts.{FactsValue}
use Rattle.hk_chains.specs.Indexed.{AllListed, rows_of_keys}
use Rattle.hk_chains.specs.Reads.{with_facts}
use Rattle.hk_chains.proofs.TaggedRows.{tagged_answer}
use Rattle.hk_store.proofs.facts.Facts.rows_tagged.Goals as goal

pub returns-clause-ok : goal.returns-clause-ok
returns-clause-ok c =
    let f = c.args.self.now in
    let all = subst (λ (f : FactsValue). AllListed f c.self.inside.tags) c.self.view_is c.self.invariant.tagged in
    c.in_ok-rows.ensures
    ∙ ap (rows_of_keys (visible (with_facts f) c.args.time) c.args.table c.args.tag) c.deref.ensures.value
    ∙ tagged_answer f c.self.inside.tags c.args.table c.args.tag c.args.time c.in_ok-keys.keys.items all c.in_ok-keys.ensures.ok
