-- Facts that come before others go are those that come after.
use Rattle.std.proofs.Common.{◌≡◌, refl, sym, ap, ◌∙◌, ℕ, Bool, true, false, cond, not, ◌||◌, Some, None, List, [], ◌∷◌, true≢false}
use Rattle.std.specs.List.{list_any}
use Rattle.std.specs.Ordering.{eq_by_cmp}
use Rattle.std.specs.FinMap as finmap
use Rattle.std.specs.FinSet as set
use Rattle.std.specs.FinMap.{find}
use Rattle.std.proofs.lemmas.Bool.{or_parts}
use Rattle.hk_types.specs.Values.{RowValue}
use Rattle.hk_types.specs.declared.version_key.VersionKey.{VersionKey}
use Rattle.hk_model.specs.History.Rows.{version_key_cmp}
use Rattle.hk_model.specs.Replica.Maps.{or_else, union}
use Rattle.hk_model.proofs.Replica.Maps.{version_key_total, version_key_same, get-retain, get-union}
use Rattle.hk_chains.specs.Facts.{FactsValue}
use Rattle.hk_chains.specs.Drops.{is_among, without_all}
use Rattle.hk_store.specs.Changes.{with_listed, facts_after_replace, meets}
use Rattle.hk_chains.proofs.StoredFacts.{key_tied}
use Rattle.hk_chains.proofs.ChangedChains.{same_facts, tied_is}

module _ {X : Type 0} (drops : List VersionKey) where
  -- nothing is listed of a version that goes
  none_listed : (es : List (VersionKey × X)) → list_any (λ e. is_among drops e.0) es ≡ false → (q : VersionKey) → is_among drops q ≡ true → find version_key_cmp q es ≡ None
  none_listed [] apart q gone = refl
  none_listed (e ∷ es) apart q gone =
      let parts = or_parts (is_among drops e.0) (list_any (λ e. is_among drops e.0) es) apart in
      elim (eq_by_cmp version_key_cmp q e.0) as (λ b. eq_by_cmp version_key_cmp q e.0 ≡ b → cond b (Some e.1) (find version_key_cmp q es) ≡ None) [
        | true ↦ λ t. absurd (true≢false (sym gone ∙ ap (is_among drops) (tied_is q e.0 (sym (key_tied q e.0) ∙ t)) ∙ parts.0))
        | false ↦ λ t. none_listed es parts.1 q gone
      ] refl

  listed_later : (m : finmap.FinMap version_key_cmp X) (es : List (VersionKey × X)) → list_any (λ e. is_among drops e.0) es ≡ false → (q : VersionKey)
      → finmap.get (finmap.retain_keys (union m (finmap.from_entries es)) (λ v. not (is_among drops v))) q ≡ finmap.get (union (finmap.retain_keys m (λ v. not (is_among drops v))) (finmap.from_entries es)) q
  listed_later m es apart q =
      get-retain version_key_total version_key_same (union m (finmap.from_entries es)) (λ v. not (is_among drops v)) q
      ∙ ap (λ x. cond (not (is_among drops q)) x None) (get-union version_key_total version_key_same m (finmap.from_entries es) q ∙ ap (or_else (finmap.get m q)) (finmap.get-from_entries version_key_total es q))
      ∙ either (is_among drops q) refl
      ∙ sym (get-union version_key_total version_key_same (finmap.retain_keys m (λ v. not (is_among drops v))) (finmap.from_entries es) q
      ∙ (λ i. or_else (get-retain version_key_total version_key_same m (λ v. not (is_among drops v)) q i) (finmap.get-from_entries version_key_total es q i)))
    where
      either : (b : Bool) → is_among drops q ≡ b → cond (not b) (or_else (finmap.get m q) (find version_key_cmp q es)) None ≡ or_else (cond (not b) (finmap.get m q) None) (find version_key_cmp q es)
      either true e = sym (none_listed es apart q e)
      either false e = refl

pub replaced_apart : (f : FactsValue) (drops : List VersionKey) (rows : List (VersionKey × RowValue)) (ends : List (VersionKey × ℕ)) → meets drops rows ends ≡ false → without_all (with_listed f rows ends) drops ≡ facts_after_replace f drops rows ends
replaced_apart f drops rows ends apart =
    let parts = or_parts (list_any (λ r. is_among drops r.0) rows) (list_any (λ e. is_among drops e.0) ends) apart in
    same_facts (without_all (with_listed f rows ends) drops) (facts_after_replace f drops rows ends) (listed_later drops f.rows rows parts.0) (listed_later drops f.ends ends parts.1)

among_any : {X : Type 0} (drops : List VersionKey) (es : List (VersionKey × X)) → list_any (λ e. set.contains (set.from_list {R = version_key_cmp} drops) e.0) es ≡ list_any (λ e. is_among drops e.0) es
among_any drops [] = refl
among_any drops (e ∷ es) = λ i. set.contains-from_list version_key_total drops e.0 i || among_any drops es i

-- whether a change meets its drops, by the set of these
pub meets_set : (drops : List VersionKey) (dropped : set.FinSet version_key_cmp) (rows : List (VersionKey × RowValue)) (ends : List (VersionKey × ℕ)) → dropped ≡ set.from_list drops → (list_any (λ r. set.contains dropped r.0) rows || list_any (λ e. set.contains dropped e.0) ends) ≡ meets drops rows ends
meets_set drops dropped rows ends is =
    (λ i. list_any (λ r. set.contains (is i) r.0) rows || list_any (λ e. set.contains (is i) e.0) ends)
    ∙ (λ i. among_any drops rows i || among_any drops ends i)
