use Rattle.std.proofs.Common.{◌≡◌, sym, ap, ◌∙◌, Some, None, Option, ℕ, rules, get_or, List}
use Rattle.std.specs.FinMap.Entries.{find}
use Rattle.std.proofs.lemmas.List.Sorted.{answers_always}
use Rattle.hk_types.specs.Values.{ConfigValue}
use Rattle.hk_types.specs.declared.version_key.VersionKey.{VersionKey}
use Rattle.hk_log.specs.Versions.{VersionValue}
use Rattle.hk_model.specs.Replica.Fragments.{FragmentValue}
use Rattle.hk_model.specs.History.Rows.{version_key_cmp}
use Rattle.hk_model.specs.Replica.Streams.{StreamContent}
use Rattle.hk_store.specs.Facts.{known_at}
use Rattle.hk_store.specs.Reads.{facts_of_content}
use Rattle.hk_fragment.specs.Parts.{Known, fragment_seen, fragment_fault, versions_listed}
use Rattle.hk_fragment.proofs.FragmentRules.{listed, facts_tested}
use Rattle.hk_fragment.proofs.FoundVersions.{find_listed}
use Rattle.hk_fragment.proofs.BinarySearch.{searched_some, searched_none}
use Rattle.hk_fragment.proofs.fragment.Fragment.version.Goals as goal

-- what is found in the list of versions is what the fragment knows
found_known : (config : ConfigValue) (base horizon : ℕ) (streams : List StreamContent) (facts : List Known) (f : FragmentValue) (v : VersionKey) (o : Option VersionValue)
    → fragment_fault base horizon streams facts ≡ None → fragment_seen config base horizon streams facts ≡ f → find version_key_cmp v facts ≡ o → o ≡ known_at (facts_of_content f.content) v
found_known config base horizon streams facts f v o faultless is e =
    sym e ∙ ap (find version_key_cmp v) (sym (listed config base horizon streams facts (facts_tested base horizon streams facts faultless)))
    ∙ ap (λ (f : FragmentValue). find version_key_cmp v (versions_listed f.content)) is ∙ find_listed f.content v

pub returns-in-Ok : goal.returns-in-Ok
returns-in-Ok c =
    let p = c.self.inside in
    let faultless = facts_tested p.base p.horizon p.got p.facts.items c.self.invariant.faultless in
    let equal = c.in-Ok.ensures.position (λ e. e.0) (answers_always _ _ _ (λ f a r g called. search rules)) c.index.result.now in
    let here : get_or p.facts.items c.in-Ok.place c.index.result.now ≡ c.index.result.now = sym c.index.ensures in
    found_known p.config p.base p.horizon p.got p.facts.items c.args.self.now c.args.version (Some c.index.result.now.1) c.self.invariant.faultless c.self.view_is
    (searched_some p.base p.horizon p.facts.items faultless c.args.version c.in-Ok.place c.index.result.now (rw (← c.deref.ensures.value) c.in-Ok.ensures.bound) (rw (← c.deref.ensures.value) equal) ∙ ap (λ (e : Known). Some e.1) here)

pub returns-in-Err : goal.returns-in-Err
returns-in-Err c =
    let p = c.self.inside in
    let faultless = facts_tested p.base p.horizon p.got p.facts.items c.self.invariant.faultless in
    let parted = c.in-Err.ensures.position (λ e. e.0) (answers_always _ _ _ (λ f a r g called. search rules)) in
    found_known p.config p.base p.horizon p.got p.facts.items c.args.self.now c.args.version None c.self.invariant.faultless c.self.view_is
    (searched_none p.base p.horizon p.facts.items faultless c.args.version c.in-Err._gap (rw (← c.deref.ensures.value) parted))
