-- What a binary search finds in a rising list of versions.
use Rattle.std.proofs.Common.{◌≡◌, Bool, true, false, nat_lt, refl, sym, ap, subst, ◌∙◌, ℕ, zero, suc, ◌<◌, ◌≤◌, Some, None, List, [], ◌∷◌, length, ◌⊎◌, inl, inr, get_or, arith, Err}
use Rattle.std.proofs.lemmas.Bool.Decides.{nat_tests}
use Rattle.std.specs.declared.cmp.Ordering.{Ordering}
use Rattle.std.specs.declared.cmp.Ordering.TheVariants.{Less, Equal, Greater}
use Rattle.std.specs.Cmp.{tied_itself}
use Rattle.std.specs.FinMap.Entries.{find}
use Rattle.std.specs.List.Sorted.{IsBinarySearchResult, IsNonDecreasingBy}
use Rattle.std.specs.Ordering.{ordering_index, ordering_reverse}
use Rattle.std.proofs.lemmas.Bool.{cases_lt}
use Rattle.hk_types.specs.declared.version_key.VersionKey.{VersionKey}
use Rattle.hk_model.specs.History.Rows.{version_key_cmp}
use Rattle.hk_model.proofs.Replica.Maps.{version_key_total, version_key_same}
use Rattle.hk_model.proofs.Replica.Members.{In}
use Rattle.hk_fragment.specs.Parts.{Known, facts_fault}
use Rattle.hk_fragment.proofs.FragmentRules.{are_facts}
use Rattle.hk_fragment.proofs.FoundVersions.{each_found}
use Rattle.hk_fragment.proofs.MergedLists.{Rising, rising, none_equal}

In_at : (xs : List Known) (i : ℕ) (d : Known) → i < length xs → In (get_or xs i d) xs
In_at [] i d l = absurd (omega (arith, l))
In_at (x ∷ xs) zero d l = inl refl
In_at (x ∷ xs) (suc i) d l = inr (In_at xs i d (omega (arith, l)))

place_of : (xs : List Known) (f : Known) → In f xs → (i : ℕ) × (i < length xs) × (get_or xs i f ≡ f)
place_of [] f i = elim i [ ]
place_of (x ∷ xs) f (inl s) = (0, omega arith, sym s)
place_of (x ∷ xs) f (inr j) = let at = place_of xs f j in (suc at.0, omega (arith, at.1), at.2)

rise_at : (xs : List Known) (i j : ℕ) (d : Known) → Rising xs → i < j → j < length xs → version_key_cmp (get_or xs i d).0 (get_or xs j d).0 ≡ Less
rise_at [] i j d r l m = absurd (omega (arith, m))
rise_at (x ∷ xs) i zero d r l m = absurd (omega (arith, l))
rise_at (x ∷ xs) zero (suc j) d r l m = r.0 (get_or xs j d) (In_at xs j d (omega (arith, m)))
rise_at (x ∷ xs) (suc i) (suc j) d r l m = rise_at xs i j d r.1 (omega (arith, l)) (omega (arith, m))

less_equal : ◌≡◌ {A = Ordering} Less Equal → ⊥
less_equal e = cc

greater_equal : ◌≡◌ {A = Ordering} Greater Equal → ⊥
greater_equal e = cc

-- what comes before compares as less or equally
index_rises : (v a b : VersionKey) → version_key_cmp a b ≡ Less → ordering_index (version_key_cmp a v) ≤ ordering_index (version_key_cmp b v)
index_rises v a b l = by (version_key_cmp a v) refl
  where
    greater : version_key_cmp v b ≡ Less → ordering_index (version_key_cmp b v) ≡ 2
    greater e = ap ordering_index (version_key_total.antisymm b v ∙ ap ordering_reverse e)

    by : (o : Ordering) → version_key_cmp a v ≡ o → ordering_index o ≤ ordering_index (version_key_cmp b v)
    by Less e = omega arith
    by Equal e =
        let two = greater (ap (λ w. version_key_cmp w b) (sym (version_key_same a v e)) ∙ l) in
        omega (arith, two)
    by Greater e =
        let two = greater (version_key_total.trans v a b (version_key_total.antisymm v a ∙ ap ordering_reverse e) l) in
        omega (arith, two)

searchable : (xs : List Known) (v : VersionKey) → Rising xs → IsNonDecreasingBy (λ y. ordering_index (version_key_cmp y.0 v)) xs
searchable xs v r i j d l m = elim (cases_lt i j) [ inl s ↦ index_rises v (get_or xs i d).0 (get_or xs j d).0 (rise_at xs i j d r s m) | inr s ↦ same i j (omega (arith, l, s)) ]
  where
    same : (i j : ℕ) → i ≡ j → ordering_index (version_key_cmp (get_or xs i d).0 v) ≤ ordering_index (version_key_cmp (get_or xs j d).0 v)
    same i j s = subst (λ (n : ℕ). ordering_index (version_key_cmp (get_or xs i d).0 v) ≤ ordering_index (version_key_cmp (get_or xs n d).0 v)) s (omega arith)

module _ (base horizon : ℕ) (xs : List Known) (faultless : facts_fault base horizon None xs ≡ None) (v : VersionKey) where
  rise : Rising xs
  rise = rising xs (are_facts base horizon None xs faultless).sorted

  pub searched_some : (i : ℕ) (d : Known) → i < length xs → version_key_cmp (get_or xs i d).0 v ≡ Equal → find version_key_cmp v xs ≡ Some (get_or xs i d).1
  searched_some i d l e =
      ap (λ w. find version_key_cmp w xs) (sym (version_key_same (get_or xs i d).0 v e))
      ∙ each_found xs (are_facts base horizon None xs faultless).sorted (get_or xs i d) (In_at xs i d l)

  pub searched_none : (i : ℕ) → IsBinarySearchResult (λ y. version_key_cmp y.0 v) xs (Err i) → find version_key_cmp v xs ≡ None
  searched_none i parted = none_equal v xs (λ f j s.
      let at = place_of xs f j in
      let parts = parted (searchable xs v rise) in
      let equal : version_key_cmp (get_or xs at.0 f).0 v ≡ Equal = ap (λ (w : Known). version_key_cmp w.0 v) at.2 ∙ ap (λ w. version_key_cmp w v) s ∙ tied_itself version_key_total v in
      elim (cases_lt at.0 i) [
        | inl l ↦ less_equal (sym (parts.0 at.0 f (omega arith) l) ∙ equal)
        | inr l ↦ greater_equal (sym (parts.1 at.0 f l at.1) ∙ equal)
      ])
