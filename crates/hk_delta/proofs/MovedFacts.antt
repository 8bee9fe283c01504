-- Facts in another order tell the same.
use Rattle.std.proofs.Common.{◌≡◌, refl, sym, ap, ◌∙◌, subst, Bool, true, false, ◌&&◌, ◌||◌, ◌==◌, Option, Some, None, List, [], ◌∷◌, Result, Ok, Err, inl, inr}
use Rattle.std.proofs.lemmas.Bool.{and_parts, eqb-true, or_parts}
use Rattle.std.proofs.lemmas.List.Folds.{list_any-append}
use Rattle.std.proofs.lemmas.List.Sorted.{list_any-IsPermutation}
use Rattle.std.specs.List.{list_any, flat_map}
use Rattle.std.specs.List.Sorted.{IsPermutation}
use Rattle.std.specs.Ordering.{eq_by_cmp}
use Rattle.std.specs.FinMap as finmap
use Rattle.hk_types.specs.Values.{same_row}
use Rattle.hk_types.specs.declared.version_key.VersionKey.{VersionKey}
use Rattle.hk_types.specs.declared.faults.Refusal.{Refusal}
use Rattle.hk_types.specs.declared.faults.Refusal.TheVariants.{Conflict}
use Rattle.hk_model.specs.History.Rows.{version_key_cmp}
use Rattle.hk_model.specs.Replica.Rules.{conflict}
use Rattle.hk_model.proofs.Replica.Maps.{version_key_total, version_key_same}
use Rattle.hk_model.proofs.Replica.Members.{In, In-find}
use Rattle.hk_model.proofs.Replica.Shown.{any_In}
use Rattle.hk_model.proofs.Replica.Visible.{any_where}
use Rattle.hk_fragment.specs.Parts.{Known}
use Rattle.hk_index.proofs.StoredKeys.{tied_versions}
use Rattle.hk_store.specs.Facts.{FactsValue}
use Rattle.hk_store.specs.Versions.{AreVersions}
use Rattle.hk_store.proofs.SameRows.{same_value}
use Rattle.hk_store.proofs.WalkedRows.{found_are}
use Rattle.hk_delta.specs.Gathers.{facts_conflict}
use Rattle.hk_delta.specs.Versions.{FactOn, row_in, end_in, rows_in, ends_in, told, contradict}
use Rattle.hk_delta.proofs.FactsInConflict.{itself, agrees_from, row_alike, time_alike, IsListed, facts_settle}
use Rattle.hk_delta.proofs.FactsInTurn.{all_joined}

either_way : {X : Type 0} (a b : Option X) → ((x : X) → a ≡ Some x → b ≡ Some x) → ((x : X) → b ≡ Some x → a ≡ Some x) → a ≡ b
either_way None None f g = refl
either_way None (Some y) f g = g y refl
either_way (Some x) b f g = sym (f x refl)

module _ {X : Type 0} (same : X → X → Bool) (tells : (a b : X) → same a b ≡ true → a ≡ b) (alike : (a : X) → same a a ≡ true) (part : FactOn → List (VersionKey × X)) where
  any_part : (p : VersionKey × X → Bool) (ss : List FactOn) → list_any p (flat_map part ss) ≡ list_any (λ s. list_any p (part s)) ss
  any_part p [] = refl
  any_part p (s ∷ ss) = list_any-append p (part s) (flat_map part ss) ∙ ap (λ b. list_any p (part s) || b) (any_part p ss)

  module _ (xs ys : List FactOn) (moved : IsPermutation xs ys) where
    any_moved : (p : VersionKey × X → Bool) → list_any p (flat_map part xs) ≡ list_any p (flat_map part ys)
    any_moved p = any_part p xs ∙ list_any-IsPermutation (λ s. list_any p (part s)) xs ys moved ∙ sym (any_part p ys)

    conflict_moved : conflict same (flat_map part xs) ≡ conflict same (flat_map part ys)
    conflict_moved =
        any_moved (λ e. list_any (facts_conflict same e) (flat_map part xs))
        ∙ (λ i. list_any (λ e. any_moved (facts_conflict same e) i) (flat_map part ys))

    there : (v : VersionKey) (x : X) (es fs : List (VersionKey × X)) → ((p : VersionKey × X → Bool) → list_any p es ≡ list_any p fs) → In (v, x) es → In (v, x) fs
    there v x es fs all i =
        let p : VersionKey × X → Bool = λ e. eq_by_cmp version_key_cmp e.0 v && same e.1 x in
        let found = any_where p fs (sym (all p) ∙ any_In p (v, x) es i (λ j. itself v j && alike x j)) in
        let parts = and_parts (eq_by_cmp version_key_cmp found.0.0 v) (same found.0.1 x) found.2 in
        subst (λ (e : VersionKey × X). In e fs) (λ j. (tied_versions found.0.0 v parts.0 j, tells found.0.1 x parts.1 j)) found.1

    listed_there : (es fs : List (VersionKey × X)) → ((p : VersionKey × X → Bool) → list_any p es ≡ list_any p fs) → conflict same fs ≡ false → (v : VersionKey) (x : X) → finmap.get (finmap.from_entries {R = version_key_cmp} es) v ≡ Some x → finmap.get (finmap.from_entries {R = version_key_cmp} fs) v ≡ Some x
    listed_there es fs all none v x is =
        agrees_from same tells alike fs none v x (there v x es fs all (In-find version_key_cmp version_key_total version_key_same v x es (sym (finmap.get-from_entries version_key_total es v) ∙ is)))

    told_moved : conflict same (flat_map part xs) ≡ false → ◌≡◌ {A = finmap.FinMap version_key_cmp X} (finmap.from_entries (flat_map part ys)) (finmap.from_entries (flat_map part xs))
    told_moved none = finmap.same_map version_key_total version_key_same _ _ (λ v. either_way _ _
        (listed_there (flat_map part ys) (flat_map part xs) (λ p. sym (any_moved p)) none v)
        (listed_there (flat_map part xs) (flat_map part ys) any_moved (sym conflict_moved ∙ none) v))

-- ---- what was joined in another order

module _ (xs ys : List FactOn) (moved : IsPermutation xs ys) where
  same_conflicts : contradict ys ≡ contradict xs
  same_conflicts = λ i. sym (conflict_moved same_row same_value row_alike row_in xs ys moved) i || sym (conflict_moved (λ a b. a == b) eqb-true time_alike end_in xs ys moved) i

  same_told : contradict xs ≡ false → told ys ≡ told xs
  same_told none =
      let parts = or_parts (conflict same_row (rows_in xs)) (conflict (λ a b. a == b) (ends_in xs)) none in
      λ i. record { rows = told_moved same_row same_value row_alike row_in xs ys moved parts.0 i; ends = told_moved (λ a b. a == b) eqb-true time_alike end_in xs ys moved parts.1 i }

  pub joined_ok : (es : List Known) → all_joined (Ok []) ys ≡ Ok es → AreVersions (told xs) es × (contradict xs ≡ false)
  joined_ok es is = elim (facts_settle ys) [
    | inl s ↦
        let none : contradict xs ≡ false = sym same_conflicts ∙ (λ i. s.3 i || s.4 i) in
        let l : IsListed (told xs) es = subst (λ (f : FactsValue). IsListed f es) (same_told none) (subst (IsListed (told ys)) (same_ok s.0 es (sym s.1 ∙ is)) s.2) in
        let a = found_are (told xs) (λ v. true) es l.rising l.found in
        (record { known = a.known; all = a.all; rising = a.rising }, none)
    | inr s ↦ absurd (values_conflict es Conflict (sym is ∙ s.0))
  ]
    where
      same_ok : (f g : List Known) → ◌≡◌ {A = Result (List Known) Refusal} (Ok f) (Ok g) → f ≡ g
      same_ok f g e = cc

      values_conflict : (f : List Known) (why : Refusal) → ◌≡◌ {A = Result (List Known) Refusal} (Ok f) (Err why) → ⊥
      values_conflict f why e = cc

  pub joined_err : (why : Refusal) → all_joined (Ok []) ys ≡ Err why → (why ≡ Conflict) × (contradict xs ≡ true)
  joined_err why is = elim (facts_settle ys) [
    | inl s ↦ absurd (values_conflict s.0 why (sym s.1 ∙ is))
    | inr s ↦ (same_err why Conflict (sym is ∙ s.0), sym same_conflicts ∙ s.1)
  ]
    where
      same_err : (a b : Refusal) → ◌≡◌ {A = Result (List Known) Refusal} (Err a) (Err b) → a ≡ b
      same_err a b e = cc

      values_conflict : (f : List Known) (why : Refusal) → ◌≡◌ {A = Result (List Known) Refusal} (Ok f) (Err why) → ⊥
      values_conflict f why e = cc
