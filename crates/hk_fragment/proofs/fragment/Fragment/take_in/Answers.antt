use Rattle.std.proofs.Common.{sym, ap, ◌∙◌, length}
use Rattle.std.specs.FinMap.{find}
use Rattle.hk_model.specs.History.Rows.{version_key_cmp}
use Rattle.hk_model.specs.Replica.Fragments.{FragmentValue}
use Rattle.hk_fragment.specs.Merging.{union_of, known_in_either}
use Rattle.hk_fragment.proofs.FragmentRules.{facts_tested}
use Rattle.hk_fragment.proofs.UnionOfFragments.{united_parts, united_seen}
use Rattle.hk_fragment.proofs.fragment.Fragment.take_in.Goals as goal

pub invariant_of-self-2 : goal.invariant_of-self-2
invariant_of-self-2 c =
    let p = c.self.inside in
    let q = c.other.inside in
    let at_zero = ap (λ (f : FragmentValue). f.base) c.self.view_is ∙ c.requires.own.0 in
    let no_horizon = ap (λ (f : FragmentValue). f.content.horizon) c.self.view_is ∙ c.requires.own.1 in
    let many = ap (λ (f : FragmentValue). length f.content.streams) c.other.view_is ∙ sym c.requires.streams ∙ sym (ap (λ (f : FragmentValue). length f.content.streams) c.self.view_is) in
    united_parts p.config p.base p.horizon p.got q.got c.join.new.self p.facts.items q.facts.items c.merged.result.items at_zero no_horizon c.in_ok-join.ensures.ok c.merged.ensures.faultless c.self.invariant many c.other.invariant.numbered_streams

pub returns-clause-ok : goal.returns-clause-ok
returns-clause-ok c =
    let p = c.self.inside in
    let q = c.other.inside in
    let at_zero = ap (λ (f : FragmentValue). f.base) c.self.view_is ∙ c.requires.own.0 in
    let no_horizon = ap (λ (f : FragmentValue). f.content.horizon) c.self.view_is ∙ c.requires.own.1 in
    let zero = ap (λ (f : FragmentValue). f.base) c.other.view_is ∙ c.requires.coming.0 in
    let none = ap (λ (f : FragmentValue). f.content.horizon) c.other.view_is ∙ c.requires.coming.1 in
    united_seen p.config p.base p.horizon p.got q.got c.join.new.self p.facts.items q.facts.items c.merged.result.items at_zero no_horizon c.in_ok-join.ensures.ok c.merged.ensures.faultless
    q.config q.base q.horizon zero none (facts_tested p.base p.horizon p.got p.facts.items c.self.invariant.faultless) (facts_tested q.base q.horizon q.got q.facts.items c.other.invariant.faultless)
    (λ v. c.merged.ensures.found v ∙ (λ i. known_in_either (find version_key_cmp v (c.replace-own.ensures.value i).items) (find version_key_cmp v ((c.in_ok-coming.ensures ∙ c.deref.ensures.value) i))))
    ∙ (λ i. union_of (c.self.view_is i) (c.other.view_is i))
