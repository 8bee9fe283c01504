-- What is listed of versions is found by look-ups.
use Rattle.std.proofs.Common.{◌≡◌, refl, sym, ap, ◌∙◌, Bool, true, false, cond, ◌||◌, ◌&&◌, Option, Some, None, List, [], ◌∷◌, map, All}
use Rattle.std.proofs.lemmas.List.Elements.{All-head, All-tail}
use Rattle.std.specs.Option.{is_some, option_and_then}
use Rattle.std.specs.List.{flat_map}
use Rattle.std.specs.Ordering.{eq_by_cmp}
use Rattle.std.specs.FinMap.{find}
use Rattle.hk_types.specs.declared.version_key.VersionKey.{VersionKey}
use Rattle.hk_log.specs.Versions.{VersionValue}
use Rattle.hk_model.specs.History.Rows.{version_key_cmp}
use Rattle.hk_model.specs.Replica.Maps.{or_else}
use Rattle.hk_model.proofs.Replica.Maps.{find-append}
use Rattle.hk_index.proofs.StoredKeys.{tied_versions}
use Rattle.hk_chains.specs.Facts.{FactsValue, known_at, entry_if}
use Rattle.hk_chains.specs.Drops.{is_among}
use Rattle.hk_chains.specs.Versions.{AreVersions, AreVersionsOf}
use Rattle.hk_chains.proofs.StoredFacts.{find_entry}
use Rattle.hk_store.proofs.ListedVersions.{IsKnown}

module _ (f : FactsValue) where
  module _ {Y : Type 0} (pick : VersionKey → VersionValue → Option Y) (q : VersionKey) where
    find_among : (es : List (VersionKey × VersionValue)) → All (IsKnown f) es → find version_key_cmp q (flat_map (λ e. entry_if e.0 (pick e.0 e.1)) es) ≡ cond (is_among (map (λ e. e.0) es) q) (option_and_then (pick q) (known_at f q)) None
    find_among [] known = refl
    find_among (e ∷ es) known =
        find-append version_key_cmp q (entry_if e.0 (pick e.0 e.1)) (flat_map (λ e. entry_if e.0 (pick e.0 e.1)) es)
        ∙ (λ i. or_else (find_entry q e.0 (pick e.0 e.1) i) (find_among es (All-tail (IsKnown f) e es known) i))
        ∙ cases (eq_by_cmp version_key_cmp q e.0) refl (is_among (map (λ e. e.0) es) q)
      where
        again : (x : Option Y) (b : Bool) → or_else x (cond b x None) ≡ x
        again None true = refl
        again None false = refl
        again (Some y) b = refl

        cases : (t : Bool) → eq_by_cmp version_key_cmp q e.0 ≡ t → (b : Bool) → or_else (cond t (pick e.0 e.1) None) (cond b (option_and_then (pick q) (known_at f q)) None) ≡ cond (t || b) (option_and_then (pick q) (known_at f q)) None
        cases false t b = refl
        cases true t b =
            let same = tied_versions q e.0 t in
            let here : pick e.0 e.1 ≡ option_and_then (pick q) (known_at f q) = (λ i. pick (sym same i) e.1) ∙ sym (ap (option_and_then (pick q)) (ap (known_at f) same ∙ All-head (IsKnown f) e es known)) in
            ap (λ x. or_else x (cond b (option_and_then (pick q) (known_at f q)) None)) here ∙ again (option_and_then (pick q) (known_at f q)) b

    pub find_picked : (es : List (VersionKey × VersionValue)) → AreVersions f es → find version_key_cmp q (flat_map (λ e. entry_if e.0 (pick e.0 e.1)) es) ≡ option_and_then (pick q) (known_at f q)
    find_picked es are = find_among es are.known ∙ ap (λ b. cond b (option_and_then (pick q) (known_at f q)) None) (sym (are.all q)) ∙ whole (known_at f q)
      where
        whole : (x : Option VersionValue) → cond (is_some x) (option_and_then (pick q) x) None ≡ option_and_then (pick q) x
        whole None = refl
        whole (Some v) = refl

    -- of a list of some versions, where nothing is picked of the others
    pub find_known : (es : List (VersionKey × VersionValue)) → All (IsKnown f) es → ((x : VersionValue) → known_at f q ≡ Some x → is_among (map (λ e. e.0) es) q ≡ false → pick q x ≡ None) → find version_key_cmp q (flat_map (λ e. entry_if e.0 (pick e.0 e.1)) es) ≡ option_and_then (pick q) (known_at f q)
    find_known es known others = find_among es known ∙ by (known_at f q) refl (is_among (map (λ e. e.0) es) q) refl
      where
        by : (x : Option VersionValue) → known_at f q ≡ x → (b : Bool) → is_among (map (λ e. e.0) es) q ≡ b → cond b (option_and_then (pick q) x) None ≡ option_and_then (pick q) x
        by None k true e = refl
        by None k false e = refl
        by (Some v) k true e = refl
        by (Some v) k false e = sym (others v k e)

-- what is known and not listed is none of those that are listed
pub unlisted : (f : FactsValue) (some : VersionKey → Bool) (es : List (VersionKey × VersionValue)) → AreVersionsOf f some es → (q : VersionKey) (x : VersionValue) → known_at f q ≡ Some x → is_among (map (λ e. e.0) es) q ≡ false → some q ≡ false
unlisted f some es are q x k e = sym (and_true (some q)) ∙ ap (λ o. some q && is_some o) (sym k) ∙ are.all q ∙ e
  where
    and_true : (b : Bool) → (b && true) ≡ b
    and_true true = refl
    and_true false = refl
