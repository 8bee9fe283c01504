-- What is listed of versions is found by look-ups.
use Rattle.std.proofs.Common.{◌≡◌, refl, sym, ap, ◌∙◌, Bool, true, false, cond, ◌||◌, Option, Some, None, List, [], ◌∷◌, map, All}
use Rattle.std.proofs.lemmas.List.Elements.{All-head, All-tail}
use Rattle.std.proofs.lemmas.List.Folds.{list_any-append}
use Rattle.std.specs.Option.{is_some}
use Rattle.std.specs.List.{flat_map}
use Rattle.std.specs.Ordering.{eq_by_cmp}
use Rattle.hk_types.specs.declared.version_key.VersionKey.{VersionKey}
use Rattle.hk_log.specs.Versions.{VersionValue}
use Rattle.hk_model.specs.History.Rows.{version_key_cmp}
use Rattle.hk_index.proofs.StoredKeys.{tied_versions}
use Rattle.hk_store.specs.Facts.{FactsValue, known_at}
use Rattle.hk_store.specs.Drops.{is_among}
use Rattle.hk_store.specs.Versions.{AreVersions}
use Rattle.hk_store.proofs.ListedVersions.{IsKnown}
use Rattle.hk_merge.specs.Plans.{passes}

module _ (f : FactsValue) where
  module _ (test : VersionKey → VersionValue → Bool) (q : VersionKey) where
    one_among : (v : VersionKey) (b : Bool) → is_among (cond b (v ∷ []) []) q ≡ cond b (eq_by_cmp version_key_cmp q v) false
    one_among v true = or_false (eq_by_cmp version_key_cmp q v)
      where
        or_false : (b : Bool) → (b || false) ≡ b
        or_false true = refl
        or_false false = refl
    one_among v false = refl

    among_those : (es : List (VersionKey × VersionValue)) → All (IsKnown f) es → is_among (flat_map (λ e. cond (test e.0 e.1) (e.0 ∷ []) []) es) q ≡ cond (is_among (map (λ e. e.0) es) q) (passes (test q) (known_at f q)) false
    among_those [] known = refl
    among_those (e ∷ es) known =
        list_any-append (eq_by_cmp version_key_cmp q) (cond (test e.0 e.1) (e.0 ∷ []) []) (flat_map (λ e. cond (test e.0 e.1) (e.0 ∷ []) []) es)
        ∙ (λ i. one_among e.0 (test e.0 e.1) i || among_those es (All-tail (IsKnown f) e es known) i)
        ∙ cases (eq_by_cmp version_key_cmp q e.0) refl (is_among (map (λ e. e.0) es) q)
      where
        other : (b : Bool) (x : Bool) → (cond b false false || x) ≡ x
        other true x = refl
        other false x = refl

        again : (a : Bool) (b : Bool) → (cond a true false || cond b a false) ≡ a
        again true b = refl
        again false true = refl
        again false false = refl

        cases : (t : Bool) → eq_by_cmp version_key_cmp q e.0 ≡ t → (b : Bool) → (cond (test e.0 e.1) t false || cond b (passes (test q) (known_at f q)) false) ≡ cond (t || b) (passes (test q) (known_at f q)) false
        cases false t b = other (test e.0 e.1) (cond b (passes (test q) (known_at f q)) false)
        cases true t b =
            let same = tied_versions q e.0 t in
            let here : test e.0 e.1 ≡ passes (test q) (known_at f q) = (λ i. test (sym same i) e.1) ∙ sym (ap (passes (test q)) (ap (known_at f) same ∙ All-head (IsKnown f) e es known)) in
            ap (λ x. cond x true false || cond b (passes (test q) (known_at f q)) false) here ∙ again (passes (test q) (known_at f q)) b

    pub among_picked : (es : List (VersionKey × VersionValue)) → AreVersions f es → is_among (flat_map (λ e. cond (test e.0 e.1) (e.0 ∷ []) []) es) q ≡ passes (test q) (known_at f q)
    among_picked es are = among_those es are.known ∙ ap (λ b. cond b (passes (test q) (known_at f q)) false) (sym (are.all q)) ∙ whole (known_at f q)
      where
        whole : (x : Option VersionValue) → cond (is_some x) (passes (test q) x) false ≡ passes (test q) x
        whole None = refl
        whole (Some v) = refl

    -- of a list of some versions, where the others do not pass
    pub among_known : (es : List (VersionKey × VersionValue)) → All (IsKnown f) es → ((x : VersionValue) → known_at f q ≡ Some x → is_among (map (λ e. e.0) es) q ≡ false → test q x ≡ false) → is_among (flat_map (λ e. cond (test e.0 e.1) (e.0 ∷ []) []) es) q ≡ passes (test q) (known_at f q)
    among_known es known others = among_those es known ∙ by (known_at f q) refl (is_among (map (λ e. e.0) es) q) refl
      where
        by : (x : Option VersionValue) → known_at f q ≡ x → (b : Bool) → is_among (map (λ e. e.0) es) q ≡ b → cond b (passes (test q) x) false ≡ passes (test q) x
        by None k true e = refl
        by None k false e = refl
        by (Some v) k true e = refl
        by (Some v) k false e = sym (others v k e)
