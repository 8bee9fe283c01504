use Rattle.std.proofs.Common.{sym, ap, ◌∙◌, subst}
use Rattle.hk_fragment.proofs.FoundVersions.{versions_are}
use Rattle.hk_store.specs.Reads.{facts_of_content}
use Rattle.hk_store.specs.Versions.{AreVersions}
use Rattle.hk_store.proofs.LearntFacts.{told_of}
use Rattle.hk_merge.specs.Sent.{content_sent}
use Rattle.hk_merge.proofs.sent.Sent.told.Goals as goal

pub returns-in-Part-clause-told : goal.returns-in-Part-clause-told
returns-in-Part-clause-told c =
    let sent = c.in-Part.fragment.now.content in
    let facts = c.facts.result.now in
    let are = subst (AreVersions (facts_of_content sent)) (sym c.facts.ensures.value) (versions_are sent) in
    subst (λ g. AreVersions g facts) (sym (told_of (facts_of_content sent) facts are)) are

pub returns-in-Part-clause-facts : goal.returns-in-Part-clause-facts
returns-in-Part-clause-facts c =
    let sent = c.in-Part.fragment.now.content in
    let facts = c.facts.result.now in
    let are = subst (AreVersions (facts_of_content sent)) (sym c.facts.ensures.value) (versions_are sent) in
    told_of (facts_of_content sent) facts are ∙ ap (λ s. facts_of_content (content_sent s)) (sym c.in-Part.is)
