-- The list of the versions of which anything is known.
use Rattle.std.proofs.Common.{◌≡◌, refl, sym, ap, ◌∙◌, subst, Bool, true, false, cond, ◌&&◌, ◌||◌, ◌==◌, Some, None, List, [], ◌∷◌, ◌++◌, map, filter, All}
use Rattle.std.proofs.lemmas.List.{map_push, append-nil}
use Rattle.std.proofs.lemmas.List.Elements.{All-push, All-head, All-tail, filter-append}
use Rattle.std.proofs.lemmas.List.Kept.{IsStrictlySortedBy-filter}
use Rattle.std.specs.Option.{is_some}
use Rattle.std.specs.List.{list_any}
use Rattle.std.specs.List.Sorted.{IsStrictlySortedBy}
use Rattle.std.specs.FinMap as finmap
use Rattle.std.specs.FinSet as set
use Rattle.std.proofs.lemmas.Bool.{or_left, or_right}
use Rattle.hk_types.specs.Values.{same_row}
use Rattle.hk_types.specs.declared.version_key.VersionKey.{VersionKey}
use Rattle.hk_log.specs.Versions.{VersionValue}
use Rattle.hk_model.specs.History.Rows.{version_key_cmp}
use Rattle.hk_model.specs.Replica.Maps.{values_conflict}
use Rattle.hk_model.specs.Replica.Rules.{contents_conflict}
use Rattle.hk_model.proofs.Replica.Maps.{version_key_total, version_key_same}
use Rattle.hk_index.specs.Listed.{Lists}
use Rattle.hk_index.proofs.StoredKeys.{any-filter}
use Rattle.hk_chains.specs.Facts.{FactsValue, known_at}
use Rattle.hk_chains.specs.Indexed.{has_fact}
use Rattle.hk_chains.specs.Drops.{is_among}
use Rattle.hk_chains.specs.Reads.{with_facts}
use Rattle.hk_chains.specs.Versions.{AreVersions, AreVersionsOf, conflict_at, value_conflicts_at}
use Rattle.hk_facts.specs.Facts.{row_of, died_of}
use Rattle.hk_chains.proofs.StoredFacts.{known_row, known_end}
use Rattle.hk_chains.proofs.Indexed.{known_fact}
use Rattle.hk_store.proofs.Conflicts.{maps_conflict_wide}

module _ (f : FactsValue) where
  abbrev pub knows : VersionKey → Bool
  knows v = is_some (known_at f v)

  abbrev pub IsKnown : VersionKey × VersionValue → Type 0
  IsKnown e = known_at f e.0 ≡ Some e.1

  -- one more version of which something is known
  pub known_more : (es fs : List (VersionKey × VersionValue)) (v : VersionKey) (known : VersionValue) → fs ≡ es ++ (v, known) ∷ [] → known_at f v ≡ Some known → All IsKnown es → All IsKnown fs
  known_more es fs v known is here before = subst (All IsKnown) (sym is) (All-push IsKnown es (v, known) before here)

  pub kept_more : {A : Type 0} (shows : A → VersionKey) (es fs : List (VersionKey × VersionValue)) (v : VersionKey) (known : VersionValue) (xs : List A) (x : A) → fs ≡ es ++ (v, known) ∷ [] → v ≡ shows x → known_at f v ≡ Some known → map (λ e. e.0) es ≡ filter knows (map shows xs) → map (λ e. e.0) fs ≡ filter knows (map shows (xs ++ x ∷ []))
  kept_more shows es fs v known xs x is at here before =
      ap (map (λ e. e.0)) is ∙ map_push (λ (e : VersionKey × VersionValue). e.0) es (v, known)
      ∙ (λ i. before i ++ v ∷ [])
      ∙ ap (λ l. filter knows (map shows xs) ++ l) (sym (ap (λ o. cond (is_some o) (v ∷ []) []) here))
      ∙ sym (filter-append knows (map shows xs) (v ∷ []))
      ∙ ap (λ u. filter knows (map shows xs ++ u ∷ [])) at
      ∙ ap (filter knows) (sym (map_push shows xs x))

  -- one more version of which nothing is known
  pub kept_none : {A : Type 0} (shows : A → VersionKey) (es : List (VersionKey × VersionValue)) (v : VersionKey) (xs : List A) (x : A) → v ≡ shows x → None ≡ known_at f v → map (λ e. e.0) es ≡ filter knows (map shows xs) → map (λ e. e.0) es ≡ filter knows (map shows (xs ++ x ∷ []))
  kept_none shows es v xs x at none before =
      before
      ∙ sym (append-nil (filter knows (map shows xs)))
      ∙ ap (λ l. filter knows (map shows xs) ++ l) (ap (λ o. cond (is_some o) (v ∷ []) []) none)
      ∙ sym (filter-append knows (map shows xs) (v ∷ []))
      ∙ ap (λ u. filter knows (map shows xs ++ u ∷ [])) at
      ∙ ap (filter knows) (sym (map_push shows xs x))

  -- those of a set
  pub walked : (some : set.FinSet version_key_cmp) (ks : List VersionKey) (es : List (VersionKey × VersionValue)) → Lists ks some → All IsKnown es → map (λ e. e.0) es ≡ filter knows ks → AreVersionsOf f (set.contains some) es
  walked some ks es lists known kept = record {
    known = known;
    all = λ v. sym (ap (λ l. is_among l v) kept ∙ any-filter knows ks v ∙ ap (λ b. b && knows v) (sym (set.contains-from_list version_key_total ks v) ∙ ap (λ s. set.contains s v) lists.same));
    rising = subst (IsStrictlySortedBy version_key_cmp) (sym kept) (IsStrictlySortedBy-filter version_key_cmp knows ks lists.rising);
  }

pub any_either : {A : Type 0} (p q : A → Bool) (xs : List A) → list_any (λ x. p x || q x) xs ≡ (list_any p xs || list_any q xs)
any_either p q [] = refl
any_either p q (x ∷ xs) = ap (λ b. (p x || q x) || b) (any_either p q xs) ∙ regroup (p x) (q x) (list_any p xs) (list_any q xs)
  where
    regroup : (a b c d : Bool) → ((a || b) || (c || d)) ≡ ((a || c) || (b || d))
    regroup true b c d = refl
    regroup false true true d = refl
    regroup false true false d = refl
    regroup false false c d = refl

-- a disagreement is found by a walk over a list of the second's versions
pub conflict_over : (f g : FactsValue) (ks : List VersionKey) → ((k : VersionKey) → is_among ks k ≡ has_fact g k) → list_any (conflict_at f g) ks ≡ contents_conflict (with_facts f) (with_facts g)
conflict_over f g ks among =
    any_either (λ v. values_conflict same_row (finmap.get f.rows v) (finmap.get g.rows v)) (λ v. values_conflict (λ a b. a == b) (finmap.get f.ends v) (finmap.get g.ends v)) ks
    ∙ (λ i. sym (maps_conflict_wide version_key_total version_key_same same_row f.rows g.rows ks (λ k e. among k ∙ or_left (is_some (finmap.get g.rows k)) (is_some (finmap.get g.ends k)) e)) i
    || sym (maps_conflict_wide version_key_total version_key_same (λ a b. a == b) f.ends g.ends ks (λ k e. among k ∙ or_right (is_some (finmap.get g.rows k)) (is_some (finmap.get g.ends k)) e)) i)

-- a version conflicts by what is known of it
pub conflict_known : (f g : FactsValue) (e : VersionKey × VersionValue) → known_at g e.0 ≡ Some e.1 → value_conflicts_at f e.0 e.1 ≡ conflict_at f g e.0
conflict_known f g e known = λ i. values_conflict same_row (finmap.get f.rows e.0) ((sym (ap row_of known) ∙ known_row g e.0) i) || values_conflict (λ a b. a == b) (finmap.get f.ends e.0) ((sym (ap died_of known) ∙ known_end g e.0) i)

-- or over a list of all versions
pub conflict_listed : (f g : FactsValue) (es : List (VersionKey × VersionValue)) → AreVersions g es → list_any (λ e. value_conflicts_at f e.0 e.1) es ≡ contents_conflict (with_facts f) (with_facts g)
conflict_listed f g es are = each es are.known ∙ conflict_over f g (map (λ e. e.0) es) (λ k. sym (are.all k) ∙ known_fact g k)
  where
    each : (xs : List (VersionKey × VersionValue)) → All (IsKnown g) xs → list_any (λ e. value_conflicts_at f e.0 e.1) xs ≡ list_any (conflict_at f g) (map (λ e. e.0) xs)
    each [] known = refl
    each (x ∷ xs) known = λ i. conflict_known f g x (All-head (IsKnown g) x xs known) i || each xs (All-tail (IsKnown g) x xs known) i
