use Rattle.std.proofs.Common.{sym, ap, ◌∙◌}
use Rattle.std.specs.List.{list_any}
use Rattle.hk_model.specs.Replica.Rules.{contents_conflict}
use Rattle.hk_fragment.specs.Parts.{Known, versions_listed}
use Rattle.hk_fragment.proofs.FoundVersions.{versions_are}
use Rattle.hk_store.specs.Reads.{facts_of_content, with_facts}
use Rattle.hk_store.specs.Versions.{value_conflicts_at}
use Rattle.hk_store.proofs.ListedVersions.{conflict_listed}
use Rattle.hk_merge.specs.Sent.{fragment_sent}
use Rattle.hk_merge.proofs.sent.Sent.conflicts_with.Goals as goal

pub returns-in-Part : goal.returns-in-Part
returns-in-Part c =
    let own = c.args.own.now in
    let sent = c.in-Part.fragment.now.content in
    c.has_conflict.ensures
    ∙ ap (list_any (λ (e : Known). value_conflicts_at own e.0 e.1)) c.facts.ensures.value
    ∙ conflict_listed own (facts_of_content sent) (versions_listed sent) (versions_are sent)
    ∙ ap (λ s. contents_conflict (with_facts own) (fragment_sent s).content) (sym c.in-Part.is)
