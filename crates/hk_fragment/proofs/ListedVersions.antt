-- What is found in a rising list of versions, and that a content gives the list back.
use Rattle.std.proofs.Common.{◌≡◌, refl, sym, ap, subst, ◌∙◌, Bool, true, false, cond, ◌||◌, Option, Some, None, is_some, List, [], ◌∷◌, ◌++◌, map, filter_map, T}
use Rattle.std.specs.List.{cons_option, list_any}
use Rattle.std.specs.Option.{option_map, option_and_then}
use Rattle.std.specs.Ordering.{eq_by_cmp, is_eq, is_lt}
use Rattle.std.specs.FinMap as finmap
use Rattle.std.specs.FinMap.Entries.{find, is_sorted, below_all}
use Rattle.std.proofs.lemmas.List.Folds.{list_any-append}
use Rattle.hk_types.specs.declared.version_key.VersionKey.{VersionKey}
use Rattle.hk_log.specs.Versions.{VersionValue, is_known}
use Rattle.hk_model.specs.History.Rows.{version_key_cmp}
use Rattle.hk_model.specs.Replica.Content.{Content}
use Rattle.hk_model.proofs.Replica.Maps.{version_key_total, version_key_same}
use Rattle.hk_model.proofs.Replica.Visible.{T_both, less}
use Rattle.hk_fragment.specs.Parts.{Known, values_by_version, known_of, versions_listed}
use Rattle.hk_index.proofs.StoredKeys.{tied_versions}

-- ---- rising lists

-- a version below all of a list is not found in it
none_below : (v : VersionKey) (facts : List Known) → T (below_all version_key_cmp v facts) → find version_key_cmp v facts ≡ None
none_below v [] b = refl
none_below v (e ∷ facts) b =
    let both = T_both (is_lt (version_key_cmp v e.0)) (below_all version_key_cmp v facts) b in
    ap (λ r. cond (is_eq r) (Some e.1) (find version_key_cmp v facts)) (less (version_key_cmp v e.0) both.0) ∙ none_below v facts both.1

module _ {Y : Type 0} (read : VersionValue → Option Y) where
  abbrev read_pair : Known → Option (VersionKey × Y)
  read_pair e = option_map (λ y. (e.0, y)) (read e.1)

  found_at : (v : VersionKey) (e : Known) (facts : List Known) → T (below_all version_key_cmp e.0 facts) → find version_key_cmp v (filter_map read_pair facts) ≡ option_and_then read (find version_key_cmp v facts)
      → (b : Bool) (o : Option Y) → eq_by_cmp version_key_cmp v e.0 ≡ b → read e.1 ≡ o → find version_key_cmp v (cons_option (option_map (λ y. (e.0, y)) o) (filter_map read_pair facts)) ≡ option_and_then read (cond b (Some e.1) (find version_key_cmp v facts))
  found_at v e facts below rest true (Some y) t r = ap (λ b. cond b (Some y) (find version_key_cmp v (filter_map read_pair facts))) t ∙ sym r
  found_at v e facts below rest true None t r =
      let none : find version_key_cmp v facts ≡ None = none_below v facts (subst (λ w. T (below_all version_key_cmp w facts)) (sym (tied_versions v e.0 t)) below) in
      rest ∙ ap (option_and_then read) none ∙ sym r
  found_at v e facts below rest false (Some y) t r = ap (λ b. cond b (Some y) (find version_key_cmp v (filter_map read_pair facts))) t ∙ rest
  found_at v e facts below rest false None t r = rest

  found : (v : VersionKey) (facts : List Known) → T (is_sorted version_key_cmp facts) → find version_key_cmp v (filter_map read_pair facts) ≡ option_and_then read (find version_key_cmp v facts)
  found v [] s = refl
  found v (e ∷ facts) s =
      let both = T_both (below_all version_key_cmp e.0 facts) (is_sorted version_key_cmp facts) s in
      found_at v e facts both.0 (found v facts both.1) (eq_by_cmp version_key_cmp v e.0) (read e.1) refl refl

  -- what is read of a version is what is read of what is known of it
  pub get-among : (facts : List Known) → T (is_sorted version_key_cmp facts) → (v : VersionKey) → finmap.get (values_by_version read facts) v ≡ option_and_then read (find version_key_cmp v facts)
  get-among facts s v = finmap.get-from_entries version_key_total (filter_map read_pair facts) v ∙ found v facts s

-- ---- a content's list

known_at : (c : Content) (v w : VersionKey) (ks : List VersionKey) → find version_key_cmp v (map (λ w. (w, known_of c w)) ks) ≡ cond (list_any (eq_by_cmp version_key_cmp v) ks) (Some (known_of c v)) None
    → (b : Bool) → eq_by_cmp version_key_cmp v w ≡ b → cond b (Some (known_of c w)) (find version_key_cmp v (map (λ w. (w, known_of c w)) ks)) ≡ cond (b || list_any (eq_by_cmp version_key_cmp v) ks) (Some (known_of c v)) None
known_at c v w ks rest true t = ap (λ w. Some (known_of c w)) (sym (tied_versions v w t))
known_at c v w ks rest false t = rest

find_known : (c : Content) (v : VersionKey) (ks : List VersionKey) → find version_key_cmp v (map (λ w. (w, known_of c w)) ks) ≡ cond (list_any (eq_by_cmp version_key_cmp v) ks) (Some (known_of c v)) None
find_known c v [] = refl
find_known c v (w ∷ ks) = known_at c v w ks (find_known c v ks) (eq_by_cmp version_key_cmp v w) refl

-- what is listed of a version
pub listed_of : (c : Content) (v : VersionKey) → find version_key_cmp v (map (λ w. (w, known_of c w)) (finmap.keys c.rows ++ finmap.keys c.ends)) ≡ cond (is_known (known_of c v)) (Some (known_of c v)) None
listed_of c v =
    find_known c v (finmap.keys c.rows ++ finmap.keys c.ends)
    ∙ ap (λ b. cond b (Some (known_of c v)) None) (list_any-append (eq_by_cmp version_key_cmp v) (finmap.keys c.rows) (finmap.keys c.ends))
    ∙ ap (λ b. cond (b || list_any (eq_by_cmp version_key_cmp v) (finmap.keys c.ends)) (Some (known_of c v)) None) (sym (finmap.contains_key-keys c.rows v))
    ∙ ap (λ b. cond (is_some (finmap.get c.rows v) || b) (Some (known_of c v)) None) (sym (finmap.contains_key-keys c.ends v))

abbrev pub pairs : Content → List Known
pairs c = map (λ w. (w, known_of c w)) (finmap.keys c.rows ++ finmap.keys c.ends)

-- each version of a list is known
abbrev pub AllKnown : List Known → Type 0
AllKnown facts = (v : VersionKey) (x : VersionValue) → find version_key_cmp v facts ≡ Some x → is_known x ≡ true

-- a content with what is known of a rising list of versions lists them
pub lists_back : (c : Content) (facts : List Known) → T (is_sorted version_key_cmp facts) → AllKnown facts
    → ((v : VersionKey) → finmap.get c.rows v ≡ option_and_then (λ x. x.row) (find version_key_cmp v facts))
    → ((v : VersionKey) → finmap.get c.ends v ≡ option_and_then (λ x. x.died) (find version_key_cmp v facts))
    → versions_listed c ≡ facts
lists_back c facts s known rows ends =
    ap finmap.entries (finmap.same_map version_key_total version_key_same (finmap.from_entries (pairs c)) (finmap.from_sorted facts) each) ∙ finmap.entries-from_sorted version_key_cmp facts s
  where
    by : (v : VersionKey) (o : Option VersionValue) → find version_key_cmp v facts ≡ o → cond (is_some (option_and_then (λ (x : VersionValue). x.row) o) || is_some (option_and_then (λ (x : VersionValue). x.died) o)) (Some (record { row = option_and_then (λ (x : VersionValue). x.row) o; died = option_and_then (λ (x : VersionValue). x.died) o })) None ≡ o
    by v None e = refl
    by v (Some x) e = ap (λ b. cond b (Some x) None) (known v x e)

    each : (v : VersionKey) → finmap.get (finmap.from_entries {R = version_key_cmp} (pairs c)) v ≡ finmap.get (finmap.from_sorted {R = version_key_cmp} facts) v
    each v =
        finmap.get-from_entries version_key_total (pairs c) v ∙ listed_of c v
        ∙ ap (λ (p : VersionValue). cond (is_known p) (Some p) None) (λ i. record { row = rows v i; died = ends v i })
        ∙ by v (find version_key_cmp v facts) refl
        ∙ sym (finmap.get-from_sorted version_key_cmp facts v s)
