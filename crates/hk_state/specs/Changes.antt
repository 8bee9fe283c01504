-- A change of a state: facts that go, facts that come, and numbers and marks that are joined.
use Rattle.std.specs.Prelude.{◌≡◌, ◌⊎◌, Bool, true, List}
use Rattle.hk_types.specs.declared.faults.Refusal.{Refusal}
use Rattle.hk_types.specs.declared.faults.Refusal.TheVariants.{Conflict, Memory}
use Rattle.hk_model.specs.Replica.Content.{Content}
use Rattle.hk_model.specs.Replica.Rules.{contents_conflict}
use Rattle.hk_model.specs.Replica.Streams.{StreamContent, all_together}
use Rattle.hk_store.specs.Changes.{facts_after_replace}
use Rattle.hk_store.specs.Facts.{FactsValue}
use Rattle.hk_store.specs.Learning.{facts_told, with_told}
use Rattle.hk_store.specs.Reads.{facts_of_content, with_facts}
use Rattle.hk_store.specs.declared.learn.LearnSource.{LearnSource}
use Rattle.hk_state.specs.declared.apply.Change.{Change}

-- the facts after a change
abbrev pub facts_after_change : FactsValue → Change → FactsValue
facts_after_change f change = facts_after_replace f change.drops.items change.rows.items change.ends.items

-- the content after a change: the drops go first, then the rows and ends come, the horizon is replaced, and the
-- streams that are given are joined
abbrev pub content_after_change : Content → Change → List StreamContent → Content
content_after_change c change given =
    let f = facts_after_change (facts_of_content c) change in
    record { log = c.log; horizon = change.horizon; rows = f.rows; ends = f.ends; streams = all_together c.streams given }

-- the content with what comes of all that is told, at its horizon, and with the streams that are given
abbrev pub content_learnt : Content → Bool → LearnSource → List StreamContent → Content
content_learnt c old told given =
    let f = with_told old c.horizon (facts_of_content c) (facts_told told) in
    record { log = c.log; horizon = c.horizon; rows = f.rows; ends = f.ends; streams = all_together c.streams given }

-- why what is told is not learnt: it contradicts what is known, or memory was refused
abbrev pub RefusesLearning : Content → LearnSource → Refusal → Type 0
RefusesLearning c told why = ((why ≡ Conflict) × (contents_conflict c (with_facts (facts_told told)) ≡ true)) ⊎ (why ≡ Memory)
