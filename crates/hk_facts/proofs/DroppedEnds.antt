-- What a chain keeps where ended versions are dropped.
use Rattle.std.proofs.Common.{◌≡◌, refl, sym, ap, ◌∙◌, ℕ, Bool, cond, not, Option, Some, None, List, filter, nat_cmp}
use Rattle.std.specs.Cmp.{nat_cmp_total, eq_by_cmp_equiv}
use Rattle.std.specs.List.Sorted.{IsStrictlySortedBy}
use Rattle.std.specs.BTreeMap as tree
use Rattle.std.specs.Map.{keys_of, lookup}
use Rattle.std.specs.FinMap as finmap
use Rattle.std.proofs.lemmas.Map.Entries.{lookup-filter-values, option_filter}
use Rattle.std.proofs.lemmas.Map.Keys.{IsDistinct-from_sorted}
use Rattle.hk_log.specs.Versions.{VersionValue}
use Rattle.hk_model.specs.Replica.Content.{at_most}
use Rattle.hk_model.proofs.Replica.Maps.{get-retain}
use Rattle.hk_facts.specs.Facts.{died_of}
use Rattle.hk_facts.specs.Chains.{ChainValue, chain_until}
use Rattle.hk_facts.proofs.StoredTrees.{get_entries, same_at_all}

pub until_at : (c : ChainValue) (h q : ℕ) → finmap.get (chain_until c h) q ≡ cond (not (at_most h (died_of (finmap.get c q)))) (finmap.get c q) None
until_at c h q = get-retain nat_cmp_total finmap.nat_cmp-IsAntisymmetric c (λ born. not (at_most h (died_of (finmap.get c born)))) q

-- whether a version has no end at most h
abbrev pub stays : ℕ → ℕ × VersionValue → Bool
stays h e = not (at_most h e.1.died)

pub until_entries : (es fs : List (ℕ × VersionValue)) (h : ℕ) → IsStrictlySortedBy nat_cmp (keys_of es) → fs ≡ filter (stays h) es → finmap.from_entries fs ≡ chain_until (finmap.from_entries es) h
until_entries es fs h ordered kept = same_at_all _ _ (λ q.
    get_entries fs q
    ∙ ap (lookup (tree.is_at (nat_cmp q))) kept
    ∙ lookup-filter-values (eq_by_cmp_equiv nat_cmp_total) (λ v. not (at_most h v.died)) q es (IsDistinct-from_sorted nat_cmp (keys_of es) ordered)
    ∙ ap (option_filter (λ v. not (at_most h v.died))) (sym (get_entries es q))
    ∙ filtered (finmap.get (finmap.from_entries es) q)
    ∙ sym (until_at (finmap.from_entries es) h q))
  where
    filtered : (x : Option VersionValue) → option_filter (λ v. not (at_most h v.died)) x ≡ cond (not (at_most h (died_of x))) x None
    filtered None = refl
    filtered (Some v) = refl
