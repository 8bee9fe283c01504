use Rattle.std.proofs.Common.{sym, ap, subst, ◌∙◌, ◌==◌, nat_cmp}
use Rattle.std.proofs.lemmas.List.Filters.{dedup_is}
use Rattle.std.proofs.lemmas.List.Kept.{IsStrictlySortedBy-dedup}
use Rattle.std.proofs.lemmas.List.Sorted.{list_any-IsPermutation}
use Rattle.std.specs.Cmp.{nat_cmp_total}
use Rattle.std.specs.List.Sorted.{IsStrictlySortedBy}
use Rattle.hk_index.specs.Tags.{is_one_of}
use Rattle.hk_index.proofs.TagsListed.{one_of_dedup, tied_numbers}
use Rattle.hk_index.proofs.key_list.KeyList.rising.Goals as goal

pub returns-clause-rising : goal.returns-clause-rising
returns-clause-rising c =
    subst (IsStrictlySortedBy nat_cmp) (sym (dedup_is (λ x y. x == y) c.sort_unstable.new.self.items _ c.dedup.ensures.filtered))
    (IsStrictlySortedBy-dedup nat_cmp_total tied_numbers c.sort_unstable.new.self.items c.sort_unstable.ensures.sorted)

pub returns-clause-same : goal.returns-clause-same
returns-clause-same c key =
    ap (λ keys. is_one_of keys key) (dedup_is (λ x y. x == y) c.sort_unstable.new.self.items _ c.dedup.ensures.filtered)
    ∙ one_of_dedup c.sort_unstable.new.self.items key
    ∙ sym (list_any-IsPermutation (λ k. k == key) _ _ c.sort_unstable.ensures.permutation)
    ∙ ap (λ keys. is_one_of keys key) (c.in_ok-keys.ensures.items ∙ c.deref.ensures.value ∙ c.self.view_is)
