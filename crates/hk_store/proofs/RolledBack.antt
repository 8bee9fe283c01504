-- Facts that are added, and taken back.
use Rattle.std.proofs.Common.{◌≡◌, refl, sym, ap, ◌∙◌, ℕ, Bool, true, false, cond, Option, Some, None, Result, Ok, Err, OnOk, OnErr, List, [], ◌∷◌, ◌++◌, map, ◌+◌, ◌<◌, take, length, get_or}
use Rattle.std.proofs.lemmas.List.{take_more, map_push}
use Rattle.std.specs.FinMap as finmap
use Rattle.std.specs.FinMap.{find}
use Rattle.hk_types.specs.declared.version_key.VersionKey.{VersionKey}
use Rattle.hk_model.specs.History.Rows.{version_key_cmp}
use Rattle.hk_model.specs.Replica.Maps.{or_else, union}
use Rattle.hk_model.proofs.Replica.Maps.{version_key_total, version_key_same, find-append, get-union}
use Rattle.hk_facts.specs.declared.fact.Fact.{Fact}
use Rattle.hk_facts.specs.declared.fact.Fact.TheVariants.{Row, End}
use Rattle.hk_facts.specs.declared.fact.Part.{Part}
use Rattle.hk_chains.specs.Facts.{FactsValue, with_added, with_fact_at, facts_without}
use Rattle.hk_chains.specs.Indexed.{IsNew}
use Rattle.hk_store.specs.Undos.{part_of, rolled_back}
use Rattle.hk_chains.proofs.StoredFacts.{tied, key_tied, or_none}
use Rattle.hk_chains.proofs.ChangedChains.{get-added, get-without, tied_is}

-- ---- one more that was added

pub undone_push : (js : List (VersionKey × Part)) (v : VersionKey) (part : Part) (f : FactsValue) → rolled_back (js ++ (v, part) ∷ []) f ≡ rolled_back js (facts_without f v part)
undone_push [] v part f = refl
undone_push (j ∷ js) v part f = ap (λ g. facts_without g j.0 j.1) (undone_push js v part f)

-- ---- a part that was not there

module _ {X : Type 0} (m : finmap.FinMap version_key_cmp X) (v : VersionKey) (none : finmap.get m v ≡ None) where
  remove_added : (x : X) → finmap.remove (with_added m v x) v ≡ m
  remove_added x = finmap.same_map version_key_total version_key_same _ _ (λ q. get-without (with_added m v x) v q ∙ ap (cond (tied q v) None) (get-added m v x q) ∙ here q (tied q v) refl)
    where
      here : (q : VersionKey) (b : Bool) → tied q v ≡ b → cond b None (cond b (or_else (finmap.get m v) (Some x)) (finmap.get m q)) ≡ finmap.get m q
      here q true t = sym (ap (finmap.get m) (tied_is q v t) ∙ none)
      here q false t = refl

without_new : (f : FactsValue) (v : VersionKey) (fact : Fact) → IsNew f v fact → facts_without (with_fact_at f v fact) v (part_of fact) ≡ f
without_new f v (Row row) none = ap (λ m. record { rows = m; ends = f.ends }) (remove_added f.rows v none row)
without_new f v (End died) none = ap (λ m. record { rows = f.rows; ends = m }) (remove_added f.ends v none died)

-- ---- one fact more, and its name

module _ (f g : FactsValue) (v : VersionKey) (fact : Fact) (free : IsNew f v fact) (added : g ≡ with_fact_at f v fact) where
  pub taken_back : (h : FactsValue) → h ≡ facts_without g v (part_of fact) → h ≡ f
  taken_back h is = is ∙ ap (λ x. facts_without x v (part_of fact)) added ∙ without_new f v fact free

  noted_back : (js ks : List (VersionKey × Part)) → ks ≡ js ++ (v, part_of fact) ∷ [] → rolled_back ks g ≡ rolled_back js f
  noted_back js ks noted = ap (λ l. rolled_back l g) noted ∙ undone_push js v (part_of fact) g ∙ ap (rolled_back js) (taken_back _ refl)

  -- it is noted, or taken back
  module _ {A E : Type 0} (h : FactsValue) (js ks : List (VersionKey × Part)) where
    pub kept_unless_noted : (r : Result A E) → OnErr r (h ≡ facts_without g v (part_of fact)) → OnErr r (h ≡ f)
    kept_unless_noted (Ok x) back = tt
    kept_unless_noted (Err why) back = taken_back h back

    pub noted_or_back : (r : Result A E) → OnOk r (ks ≡ js ++ (v, part_of fact) ∷ []) → OnOk r (h ≡ g) → OnErr r (ks ≡ js) → OnErr r (h ≡ facts_without g v (part_of fact)) → rolled_back ks h ≡ rolled_back js f
    noted_or_back (Ok x) noted stays same back = ap (rolled_back ks) stays ∙ noted_back js ks noted
    noted_or_back (Err why) noted stays same back = λ i. rolled_back (same i) (taken_back h back i)

-- ---- many facts

module _ {X : Type 0} (m : finmap.FinMap version_key_cmp X) where
  pub union_none : union m (finmap.from_entries []) ≡ m
  union_none = finmap.same_map version_key_total version_key_same _ _ (λ q. get-union version_key_total version_key_same m (finmap.from_entries []) q ∙ ap (or_else (finmap.get m q)) (finmap.get-empty version_key_cmp q) ∙ or_none (finmap.get m q))

  get_union : (es : List (VersionKey × X)) (q : VersionKey) → finmap.get (union m (finmap.from_entries es)) q ≡ or_else (finmap.get m q) (find version_key_cmp q es)
  get_union es q = get-union version_key_total version_key_same m (finmap.from_entries es) q ∙ ap (or_else (finmap.get m q)) (finmap.get-from_entries version_key_total es q)

  pub union_push : (es : List (VersionKey × X)) (v : VersionKey) (x : X) → with_added (union m (finmap.from_entries es)) v x ≡ union m (finmap.from_entries (es ++ (v, x) ∷ []))
  union_push es v x = finmap.same_map version_key_total version_key_same _ _ (λ q.
      get-added (union m (finmap.from_entries es)) v x q
      ∙ here q (tied q v) refl
      ∙ ap (λ o. or_else (finmap.get m q) o) (sym (find-append version_key_cmp q es ((v, x) ∷ []) ∙ ap (λ b. or_else (find version_key_cmp q es) (cond b (Some x) None)) (key_tied q v)))
      ∙ sym (get_union (es ++ (v, x) ∷ []) q))
    where
      assoc : (a b c : Option X) → or_else (or_else a b) c ≡ or_else a (or_else b c)
      assoc None b c = refl
      assoc (Some a) b c = refl

      here : (q : VersionKey) (b : Bool) → tied q v ≡ b → cond b (or_else (finmap.get (union m (finmap.from_entries es)) v) (Some x)) (finmap.get (union m (finmap.from_entries es)) q) ≡ or_else (finmap.get m q) (or_else (find version_key_cmp q es) (cond b (Some x) None))
      here q true t = ap (λ k. or_else (finmap.get (union m (finmap.from_entries es)) k) (Some x)) (sym (tied_is q v t)) ∙ ap (λ o. or_else o (Some x)) (get_union es q) ∙ assoc (finmap.get m q) (find version_key_cmp q es) (Some x)
      here q false t = get_union es q ∙ ap (or_else (finmap.get m q)) (sym (or_none (find version_key_cmp q es)))

-- one more of a list
pub add_more : {A X : Type 0} (g : A → VersionKey × X) (m now new : finmap.FinMap version_key_cmp X) (xs : List A) (i : ℕ) (x : A) → x ≡ get_or xs i x → i < length xs → now ≡ union m (finmap.from_entries (map g (take i xs))) → new ≡ with_added now (g x).0 (g x).1 → new ≡ union m (finmap.from_entries (map g (take (i + 1) xs)))
add_more g m now new xs i x is below before one =
    one
    ∙ ap (λ n. with_added n (g x).0 (g x).1) before
    ∙ union_push m (map g (take i xs)) (g x).0 (g x).1
    ∙ ap (λ es. union m (finmap.from_entries es)) (sym (ap (map g) (take_more xs i x below ∙ ap (λ y. take i xs ++ y ∷ []) (sym is)) ∙ map_push g (take i xs) x))

pub add_one : {X : Type 0} (m now new : finmap.FinMap version_key_cmp X) (es : List (VersionKey × X)) (i : ℕ) (e : VersionKey × X) → e ≡ get_or es i e → i < length es → now ≡ union m (finmap.from_entries (take i es)) → new ≡ with_added now e.0 e.1 → new ≡ union m (finmap.from_entries (take (i + 1) es))
add_one m now new es i e is below before one =
    one
    ∙ ap (λ n. with_added n e.0 e.1) before
    ∙ union_push m (take i es) e.0 e.1
    ∙ ap (λ fs. union m (finmap.from_entries fs)) (sym (take_more es i e below ∙ ap (λ y. take i es ++ y ∷ []) (sym is)))
