-- Facts that are dropped one version after the other.
use Rattle.std.proofs.Common.{◌≡◌, refl, sym, ap, ◌∙◌, ℕ, Bool, true, false, cond, not, ◌||◌, Option, None, List, [], ◌∷◌, ◌++◌, ◌+◌, ◌<◌, take, length, get_or}
use Rattle.std.proofs.lemmas.List.{take_more}
use Rattle.std.proofs.lemmas.List.Folds.{list_any-append}
use Rattle.std.specs.Ordering.{eq_by_cmp}
use Rattle.std.specs.FinMap as finmap
use Rattle.hk_types.specs.declared.version_key.VersionKey.{VersionKey}
use Rattle.hk_model.specs.History.Rows.{version_key_cmp}
use Rattle.hk_model.proofs.Replica.Maps.{version_key_total, version_key_same, get-retain}
use Rattle.hk_facts.specs.declared.fact.Part.TheVariants.{Whole}
use Rattle.hk_chains.specs.Facts.{FactsValue, facts_without}
use Rattle.hk_chains.specs.Drops.{is_among, without_all}
use Rattle.hk_chains.proofs.ChangedChains.{same_facts}

module _ {X : Type 0} (m : finmap.FinMap version_key_cmp X) where
  kept : (p : VersionKey → Bool) (q : VersionKey) → finmap.get (finmap.retain_keys m p) q ≡ cond (p q) (finmap.get m q) None
  kept p q = get-retain version_key_total version_key_same m p q

  kept_more : (vs : List VersionKey) (v q : VersionKey) → finmap.get (finmap.remove (finmap.retain_keys m (λ k. not (is_among vs k))) v) q ≡ finmap.get (finmap.retain_keys m (λ k. not (is_among (vs ++ v ∷ []) k))) q
  kept_more vs v q =
      finmap.get-remove version_key_total (finmap.retain_keys m (λ k. not (is_among vs k))) v q
      ∙ ap (cond (eq_by_cmp version_key_cmp q v) None) (kept (λ k. not (is_among vs k)) q)
      ∙ cases (eq_by_cmp version_key_cmp q v) (is_among vs q) (finmap.get m q)
      ∙ ap (λ b. cond (not b) (finmap.get m q) None) (sym (list_any-append (eq_by_cmp version_key_cmp q) vs (v ∷ [])))
      ∙ sym (kept (λ k. not (is_among (vs ++ v ∷ []) k)) q)
    where
      cases : (a b : Bool) (x : Option X) → cond a None (cond (not b) x None) ≡ cond (not (b || (a || false))) x None
      cases true true x = refl
      cases true false x = refl
      cases false true x = refl
      cases false false x = refl

  kept_all : (q : VersionKey) → finmap.get m q ≡ finmap.get (finmap.retain_keys m (λ k. not (is_among [] k))) q
  kept_all q = sym (kept (λ k. not (is_among [] k)) q)

  kept_alike : (p r : VersionKey → Bool) → ((q : VersionKey) → p q ≡ r q) → (q : VersionKey) → finmap.get (finmap.retain_keys m (λ k. not (p k))) q ≡ finmap.get (finmap.retain_keys m (λ k. not (r k))) q
  kept_alike p r is q = kept (λ k. not (p k)) q ∙ ap (λ b. cond (not b) (finmap.get m q) None) (is q) ∙ sym (kept (λ k. not (r k)) q)

pub dropped_none : (f : FactsValue) → f ≡ without_all f []
dropped_none f = same_facts f (without_all f []) (kept_all f.rows) (kept_all f.ends)

pub dropped_more : (f g new : FactsValue) (vs : List VersionKey) (i : ℕ) (v : VersionKey) → v ≡ get_or vs i v → i < length vs → g ≡ without_all f (take i vs) → new ≡ facts_without g v Whole → new ≡ without_all f (take (i + 1) vs)
dropped_more f g new vs i v is below before one =
    one ∙ ap (λ h. facts_without h v Whole) before
    ∙ same_facts (facts_without (without_all f (take i vs)) v Whole) (without_all f (take i vs ++ v ∷ [])) (kept_more f.rows (take i vs) v) (kept_more f.ends (take i vs) v)
    ∙ ap (without_all f) (sym (take_more vs i v below ∙ ap (λ y. take i vs ++ y ∷ []) (sym is)))
