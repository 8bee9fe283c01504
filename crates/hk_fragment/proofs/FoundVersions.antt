-- In a rising list each version is found with what stands beside it; a content's list of versions is all that is known of them.
use Rattle.std.proofs.Common.{◌≡◌, refl, sym, ap, ◌∙◌, subst, ℕ, Bool, not, ◌==◌, length, ◌++◌, ◌<◌, ◌≤◌, max, Result, Ok, Err, IfOk, IfErr, true, false, cond, ◌||◌, ◌⊎◌, inl, inr, Some, None, is_some, List, [], ◌∷◌, map, All, T}
use Rattle.std.proofs.lemmas.List.Elements.{All-nil, All-cons}
use Rattle.std.specs.declared.cmp.Ordering.{Ordering}
use Rattle.std.specs.declared.cmp.Ordering.TheVariants.{Less, Equal}
use Rattle.std.specs.Ordering.{eq_by_cmp, is_lt, is_eq}
use Rattle.std.specs.Cmp.{Equal-is, tied_itself}
use Rattle.std.specs.List.{AllByRecursion, list_any}
use Rattle.std.specs.List.Sorted.{IsStrictlySortedBy}
use Rattle.std.specs.FinMap as finmap
use Rattle.std.specs.FinMap.Entries.{find, is_sorted, below_all}
use Rattle.hk_types.specs.declared.version_key.VersionKey.{VersionKey}
use Rattle.hk_log.specs.Versions.{VersionValue}
use Rattle.hk_model.specs.History.Rows.{version_key_cmp}
use Rattle.hk_model.specs.Replica.Content.{Content, readable}
use Rattle.hk_model.proofs.Replica.Maps.{version_key_total, version_key_same}
use Rattle.hk_model.proofs.Replica.Members.{In}
use Rattle.hk_model.proofs.Replica.Visible.{T_both, less}
use Rattle.hk_store.specs.Facts.{known_at}
use Rattle.hk_store.specs.Reads.{facts_of_content}
use Rattle.hk_store.specs.Versions.{AreVersions}
use Rattle.hk_store.specs.Drops.{is_among}
use Rattle.hk_types.specs.Values.{ConfigValue}
use Rattle.hk_types.specs.declared.faults.Refusal.{Refusal}
use Rattle.hk_types.specs.declared.faults.Refusal.TheVariants.{ForeignLog, WrongStreams, Memory, Gap}
use Rattle.hk_model.specs.Replica.Streams.{StreamContent}
use Rattle.hk_model.specs.Replica.Fragments.{FragmentValue}
use Rattle.hk_model.specs.Replica.Rules.{contents_conflict, join_result}
use Rattle.hk_store.specs.Versions.{value_conflicts_at}
use Rattle.hk_log.specs.declared.item.Item.{Item}
use Rattle.hk_model.specs.Replica.ContentOf.{content_of}
use Rattle.hk_model.specs.Replica.Fragments.{part}
use Rattle.hk_model.specs.History.Histories.{IsHistory, AreItemsOf}
use Rattle.hk_model.specs.Replica.Replicas.{Represents}
use Rattle.hk_fragment.specs.Parts.{Known, versions_listed}
use Rattle.hk_fragment.proofs.ListedVersions.{listed_of, pairs}

-- in a rising list each version is found with what stands beside it
find_head : (e : Known) (es : List Known) → find version_key_cmp e.0 (e ∷ es) ≡ Some e.1
find_head e es = ap (λ r. cond (is_eq r) (Some e.1) (find version_key_cmp e.0 es)) (tied_itself version_key_total e.0)

-- each is below those after it
rise_all : (e : VersionKey) (es : List Known) → T (below_all version_key_cmp e es) → AllByRecursion (λ k. version_key_cmp e k ≡ Less) (map (λ (f : Known). f.0) es)
rise_all e [] b = tt
rise_all e (f ∷ es) b =
    let both = T_both (is_lt (version_key_cmp e f.0)) (below_all version_key_cmp e es) b in
    (less (version_key_cmp e f.0) both.0, rise_all e es both.1)

rises : (es : List Known) → T (is_sorted version_key_cmp es) → IsStrictlySortedBy version_key_cmp (map (λ (f : Known). f.0) es)
unfolding IsStrictlySortedBy
rises [] s = tt
rises (e ∷ es) s = let both = T_both (below_all version_key_cmp e.0 es) (is_sorted version_key_cmp es) s in (rise_all e.0 es both.0, rises es both.1)

pub below_In : (k : VersionKey) (es : List Known) → T (below_all version_key_cmp k es) → (f : Known) → In f es → version_key_cmp k f.0 ≡ Less
below_In k [] b f i = elim i [ ]
below_In k (e ∷ es) b f i =
    let both = T_both (is_lt (version_key_cmp k e.0)) (below_all version_key_cmp k es) b in
    elim i [
      | inl s ↦ ap (λ (g : Known). version_key_cmp k g.0) s ∙ less (version_key_cmp k e.0) both.0
      | inr j ↦ below_In k es both.1 f j
    ]

apart : (k v : VersionKey) → version_key_cmp k v ≡ Less → eq_by_cmp version_key_cmp v k ≡ false
apart k v l = by (eq_by_cmp version_key_cmp v k) refl
  where
    values_conflict : ◌≡◌ {A = Ordering} Less Equal → ⊥
    values_conflict e = cc

    by : (b : Bool) → eq_by_cmp version_key_cmp v k ≡ b → b ≡ false
    by false e = refl
    by true e =
        let same = version_key_same v k ((Equal-is (version_key_cmp v k)).0 e) in
        absurd (values_conflict (sym l ∙ ap (version_key_cmp k) same ∙ tied_itself version_key_total k))

pub each_found : (es : List Known) → T (is_sorted version_key_cmp es) → (f : Known) → In f es → find version_key_cmp f.0 es ≡ Some f.1
each_found [] s f i = elim i [ ]
each_found (e ∷ es) s f i =
    let both = T_both (below_all version_key_cmp e.0 es) (is_sorted version_key_cmp es) s in
    elim i [
      | inl t ↦ subst (λ (g : Known). find version_key_cmp g.0 (e ∷ es) ≡ Some g.1) (sym t) (find_head e es)
      | inr j ↦ ap (λ b. cond b (Some e.1) (find version_key_cmp f.0 es)) (apart e.0 f.0 (below_In e.0 es both.0 f j)) ∙ each_found es both.1 f j
    ]

pub all_from : {P : Known → Type 0} (es : List Known) → ((f : Known) → In f es → P f) → All P es
all_from {P = P} [] h = All-nil P
all_from {P = P} (e ∷ es) h = All-cons P e es (h e (inl refl)) (all_from es (λ f i. h f (inr i)))

among : (v : VersionKey) (es : List Known) → is_some (find version_key_cmp v es) ≡ is_among (map (λ (f : Known). f.0) es) v
among v [] = refl
among v (e ∷ es) = by (eq_by_cmp version_key_cmp v e.0) (among v es)
  where
    by : (b : Bool) → is_some (find version_key_cmp v es) ≡ is_among (map (λ (f : Known). f.0) es) v → is_some (cond b (Some e.1) (find version_key_cmp v es)) ≡ (b || is_among (map (λ (f : Known). f.0) es) v)
    by true h = refl
    by false h = h

module _ (c : Content) where
  listed_map : finmap.FinMap version_key_cmp VersionValue
  listed_map = finmap.from_entries (pairs c)

  pub find_listed : (v : VersionKey) → find version_key_cmp v (versions_listed c) ≡ known_at (facts_of_content c) v
  find_listed v = sym (finmap.get-entries (finmap.from_entries {R = version_key_cmp} (pairs c)) v) ∙ finmap.get-from_entries version_key_total (pairs c) v ∙ listed_of c v

  -- a content's list of versions is all that it knows
  pub versions_are : AreVersions (facts_of_content c) (versions_listed c)
  versions_are =
      let sorted = finmap.entries_sorted (finmap.from_entries {R = version_key_cmp} (pairs c)) in
      record {
        known = all_from (versions_listed c) (λ f i. sym (find_listed f.0) ∙ each_found (versions_listed c) sorted f i);
        all = λ v. sym (ap is_some (find_listed v)) ∙ among v (versions_listed c);
        rising = rises (versions_listed c) sorted;
      }
