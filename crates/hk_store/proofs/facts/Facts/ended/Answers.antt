use Rattle.std.proofs.Common.{sym, refl, false, ap, ◌∙◌, map, rules, subst}
use Rattle.std.proofs.lemmas.List.Sorted.{IsNonDecreasingBy-from_sort_by_key, list_any-IsPermutation}
use Rattle.std.proofs.lemmas.Map.Keys.{IsDistinct-IsPermutation, IsDistinct-from_sorted}
use Rattle.std.specs.Cmp.{eq_by_cmp_equiv}
use Rattle.std.specs.List.Sorted.{IsStrictlySortedBy}
use Rattle.std.specs.Ordering.{eq_by_cmp}
use Rattle.hk_model.specs.History.Rows.{version_key_cmp}
use Rattle.hk_model.proofs.Replica.Maps.{version_key_total}
use Rattle.hk_chains.specs.declared.stated.Sought.{Sought}
use Rattle.hk_chains.proofs.SoughtVersions.{among_sought, ends_sought, names_borrowed}
use Rattle.hk_store.proofs.facts.Facts.ended.Goals as goal

pub returns-clause-ok : goal.returns-clause-ok
returns-clause-ok c q =
    let names = c.in_ok-versions.versions.items in
    let found = c.in_ok-found.found.items in
    let sought : Sought = record { span = c.ends_until.result; births = false } in
    sym (list_any-IsPermutation (eq_by_cmp version_key_cmp q) names c.sort_unstable_by_key.new.self.items c.sort_unstable_by_key.ensures.permutation)
    ∙ among_sought c.args.self.now sought found names c.in_ok-found.ensures.ok (c.in_ok-versions.ensures ∙ ap (λ l. map (λ e. e.0) l) c.deref.ensures.value) q
    ∙ ends_sought c.args.self.now sought q refl ∙ sym (c.ends_until.ensures q)

pub returns-clause-rising : goal.returns-clause-rising
returns-clause-rising c = IsNonDecreasingBy-from_sort_by_key (λ v. v.born) _ c.sort_unstable_by_key.ensures.sorted (λ a r q k. search rules)

pub returns-clause-once : goal.returns-clause-once
returns-clause-once c =
    let names = c.in_ok-versions.versions.items in
    IsDistinct-IsPermutation (eq_by_cmp version_key_cmp) (eq_by_cmp_equiv version_key_total).symm names c.sort_unstable_by_key.new.self.items c.sort_unstable_by_key.ensures.permutation
    (IsDistinct-from_sorted version_key_cmp names (subst (IsStrictlySortedBy version_key_cmp) (names_borrowed c.in_ok-found.found.items ∙ sym (c.in_ok-versions.ensures ∙ ap (λ l. map (λ e. e.0) l) c.deref.ensures.value)) c.in_ok-found.ensures.ok.rising))
