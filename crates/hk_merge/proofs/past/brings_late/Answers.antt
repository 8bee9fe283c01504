use Rattle.std.proofs.Common.{◌≡◌, sym, ap, ◌∙◌, subst, max}
use Rattle.std.specs.List.{list_any}
use Rattle.hk_types.specs.declared.version_key.VersionKey.{VersionKey}
use Rattle.hk_log.specs.Versions.{VersionValue}
use Rattle.hk_model.specs.Replica.Touches.{joined_horizon}
use Rattle.hk_fragment.proofs.FoundVersions.{versions_are}
use Rattle.hk_store.specs.Facts.{FactsValue}
use Rattle.hk_store.specs.Reads.{facts_of_content}
use Rattle.hk_store.specs.Versions.{AreVersions}
use Rattle.hk_merge.specs.Growing.{has_horizon}
use Rattle.hk_merge.specs.Late.{is_late}
use Rattle.hk_merge.specs.Sent.{fragment_sent}
use Rattle.hk_merge.proofs.LateFacts.{late_listed}
use Rattle.hk_merge.proofs.past.brings_late.Goals as goal

pub returns-in-Part : goal.returns-in-Part
returns-in-Part c =
    let t = c.args.target.now in
    let f = fragment_sent c.args.sent.now in
    let coming = c.coming-coming.result in
    let own = c.facts-own.ensures in
    let at : c.later.result ≡ joined_horizon t f = c.later.ensures ∙ (λ i. max (c.horizon.ensures.value i) (c.horizon-2.ensures.value i)) in
    let content = c.in-Part.fragment.now.content in
    let are = subst (AreVersions (facts_of_content content)) (sym c.facts.ensures.value) (versions_are content) in
    c.one_is_late.ensures
    ∙ (λ i. list_any (λ (e : VersionKey × VersionValue). is_late (record { rows = own.rows i; ends = own.ends i }) (c.readable-readable.ensures.value i) coming e.0 e.1) c.facts.result.now)
    ∙ late_listed t f coming (c.coming-coming.ensures.old ∙ ap (has_horizon f) at) (c.coming-coming.ensures.horizon ∙ at) c.facts.result.now
    (subst (λ s. AreVersions (facts_of_content (fragment_sent s).content) c.facts.result.now) (sym c.in-Part.is) are)

pub returns-in-Whole : goal.returns-in-Whole
returns-in-Whole c =
    let t = c.args.target.now in
    let f = fragment_sent c.args.sent.now in
    let coming = c.coming-coming.result in
    let own = c.facts-own.ensures in
    let theirs = c.facts-in-Whole.ensures in
    let at : c.later.result ≡ joined_horizon t f = c.later.ensures ∙ (λ i. max (c.horizon.ensures.value i) (c.horizon-2.ensures.value i)) in
    let found = c.some_are_late.ensures in
    let are = subst (λ (g : FactsValue). AreVersions g found.0) (λ i. record { rows = theirs.rows i; ends = theirs.ends i }) found.1 in
    found.2
    ∙ (λ i. list_any (λ (e : VersionKey × VersionValue). is_late (record { rows = own.rows i; ends = own.ends i }) (c.readable-readable.ensures.value i) coming e.0 e.1) found.0)
    ∙ late_listed t f coming (c.coming-coming.ensures.old ∙ ap (has_horizon f) at) (c.coming-coming.ensures.horizon ∙ at) found.0
    (subst (λ s. AreVersions (facts_of_content (fragment_sent s).content) found.0) (sym c.in-Whole.is) are)
