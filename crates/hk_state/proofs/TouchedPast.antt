-- How it is found whether a prune touches the past.
use Rattle.std.proofs.Common.{◌≡◌, refl, sym, ap, ◌∙◌, ℕ, ◌-◌, Bool, true, false, not, Option, Some, None, List, [], ◌∷◌, map, ◌&&◌, ◌||◌, ◌<◌, ◌≤◌, nat_le, is_some, inl, inr, le-leb, leb-true, true≢false, arith}
use Rattle.std.proofs.lemmas.Bool.{and_parts, cases_lt}
use Rattle.std.specs.List.{list_any}
use Rattle.std.specs.Ordering.{eq_by_cmp, is_eq}
use Rattle.std.specs.Cmp.{tied_itself}
use Rattle.std.specs.FinMap as finmap
use Rattle.hk_types.specs.Values.{RowValue}
use Rattle.hk_types.specs.declared.version_key.VersionKey.{VersionKey}
use Rattle.hk_log.specs.Versions.{VersionValue}
use Rattle.hk_model.specs.History.Rows.{RowKey, version_key_cmp, row_key_of, version_of}
use Rattle.hk_model.specs.Replica.Answers.{replaces}
use Rattle.hk_model.specs.Replica.Content.{Content, at_most, ended_by}
use Rattle.hk_model.specs.Replica.Lawful.{IsLawful}
use Rattle.hk_model.specs.Replica.Touches.{is_next_older, next_older_stays, uncovers, prune_touches_past}
use Rattle.hk_model.proofs.Replica.Maps.{version_key_total, version_key_same}
use Rattle.hk_model.proofs.Replica.Members.{In}
use Rattle.hk_model.proofs.Replica.Visible.{any_where, not_from}
use Rattle.hk_model.proofs.Replica.Shown.{any_In, get-key, replaces_from}
use Rattle.hk_model.proofs.Replica.Chains.{replaced_by, key_row}
use Rattle.hk_facts.specs.Chains.{ChainValue}
use Rattle.hk_facts.specs.Facts.{row_of, died_of}
use Rattle.hk_facts.proofs.LatestVersion.{IsLatest}
use Rattle.hk_facts.proofs.ShownRow.{IsChainOf}
use Rattle.hk_store.specs.Drops.{is_among}
use Rattle.hk_store.specs.Facts.{FactsValue, known_at}
use Rattle.hk_store.specs.Reads.{facts_of_content}
use Rattle.hk_store.specs.Versions.{AreVersions}
use Rattle.hk_store.proofs.Indexed.{known_fact}
use Rattle.hk_store.proofs.StoredFacts.{known_row}
use Rattle.hk_store.proofs.Conflicts.{same_any, equal}
use Rattle.hk_state.specs.Touched.{stays_found}

-- ---- the row that was born last before a version

module _ (c : Content) (h : ℕ) (v : VersionKey) where
  abbrev is_open_older : VersionKey → Bool
  is_open_older w = is_next_older c v w && not (ended_by c.ends h w)

  -- what stays and was born last before the version
  record IsOlder (w : VersionKey) : Type 0 where
    row : RowValue
    here : finmap.get c.rows w ≡ Some row
    same : row_key_of w ≡ row_key_of v
    less : w.born < v.born
    last : list_any (replaces (v.born - 1) w) (finmap.keys c.rows) ≡ false
    stays : ended_by c.ends h w ≡ false

  is_false : (b : Bool) → not b ≡ true → b ≡ false
  is_false true e = sym e
  is_false false e = refl

  older_of : (w : VersionKey) → In w (finmap.keys c.rows) → is_open_older w ≡ true → IsOlder w
  older_of w i e =
      let a = and_parts (is_next_older c v w) (not (ended_by c.ends h w)) e in
      let b = and_parts (replaces v.born w v) (not (list_any (replaces (v.born - 1) w) (finmap.keys c.rows))) a.0 in
      let q = replaced_by v.born w v b.0 in
      let x = key_row c.rows w i in
      record { row = x.0; here = x.1; same = q.same; less = q.later; last = is_false _ b.1; stays = is_false _ a.1 }

  none_where : ((w : VersionKey) → IsOlder w → ⊥) → next_older_stays c h v ≡ false
  none_where none = not_from (next_older_stays c h v) (λ y. let w = any_where is_open_older (finmap.keys c.rows) y in none w.0 (older_of w.0 w.1 w.2))

  -- where nothing is known of its key
  pub none_known : ((born : ℕ) → finmap.get c.rows (version_of (row_key_of v) born) ≡ None) → next_older_stays c h v ≡ false
  none_known nothing = none_where (λ w o. nowhere o.row (sym (nothing w.born) ∙ ap (λ (k : RowKey). finmap.get c.rows (version_of k w.born)) (sym o.same) ∙ o.here))
    where
      nowhere : (r : RowValue) → ◌≡◌ {A = Option RowValue} None (Some r) → ⊥
      nowhere r e = cc

  module _ (chain : ChainValue) (is : IsChainOf c (row_key_of v) chain) (lawful : IsLawful c) where
    there : (born : ℕ) (r : RowValue) → finmap.get c.rows (version_of (row_key_of v) born) ≡ Some r → (x : VersionValue) × (finmap.get chain born ≡ Some x) × (is_some x.row ≡ true)
    there born r e = by (finmap.get chain born) refl (is.rows born ∙ e)
      where
        by : (o : Option VersionValue) → finmap.get chain born ≡ o → row_of o ≡ Some r → (x : VersionValue) × (finmap.get chain born ≡ Some x) × (is_some x.row ≡ true)
        by None g f = absurd cc
        by (Some x) g f = (x, g, ap is_some f)

    in_chain : (w : VersionKey) (r : RowValue) → finmap.get c.rows w ≡ Some r → row_key_of w ≡ row_key_of v → (x : VersionValue) × (finmap.get chain w.born ≡ Some x) × (is_some x.row ≡ true)
    in_chain w r e same = there w.born r (ap (λ (k : RowKey). finmap.get c.rows (version_of k w.born)) (sym same) ∙ e)

    seen : (b : ℕ) (x : VersionValue) → b ≤ v.born - 1 → is_some x.row ≡ true → (nat_le b (v.born - 1) && is_some x.row) ≡ true
    seen b x l e i = le-leb b (v.born - 1) l i && e i

    row_in : (x : Option RowValue) → is_some x ≡ true → (r : RowValue) × (x ≡ Some r)
    row_in None e = absurd (true≢false (sym e))
    row_in (Some r) e = (r, refl)

    pub older_found : (o : Option (ℕ × VersionValue)) → IsLatest (v.born - 1) chain o → next_older_stays c h v ≡ stays_found h o
    older_found None none = none_where (λ w o.
        let less = o.less in
        let x = in_chain w o.row o.here o.same in
        none w.born x.0 x.1 (seen w.born x.0 (omega arith) x.2))
    older_found (Some e) found = by (at_most h e.1.died) refl
      where
        w : VersionKey
        w = version_of (row_key_of v) e.0

        parts : (nat_le e.0 (v.born - 1) ≡ true) × (is_some e.1.row ≡ true)
        parts = and_parts (nat_le e.0 (v.born - 1)) (is_some e.1.row) found.1.0

        row : (r : RowValue) × (finmap.get c.rows w ≡ Some r)
        row = let r = row_in e.1.row parts.1 in (r.0, sym (is.rows e.0) ∙ ap row_of found.0 ∙ r.1)

        less : e.0 < v.born
        less = let l = leb-true e.0 (v.born - 1) parts.0 in let b : 0 < e.0 = lawful.born w row.0 row.1 in omega arith

        last : list_any (replaces (v.born - 1) w) (finmap.keys c.rows) ≡ false
        last = not_from _ (λ y.
            let u = any_where (replaces (v.born - 1) w) (finmap.keys c.rows) y in
            let q = replaced_by (v.born - 1) w u.0 u.2 in
            let r = key_row c.rows u.0 u.1 in
            let x = in_chain u.0 r.0 r.1 (sym q.same) in
            let up = found.1.1 u.0.born x.0 x.1 (seen u.0.born x.0 q.born x.2) in
            let later = q.later in
            omega arith)

        next : is_next_older c v w ≡ true
        next i = replaces_from v.born w v refl less (omega arith) i && not (last i)

        ended : ended_by c.ends h w ≡ at_most h e.1.died
        ended = ap (at_most h) (sym (is.ends e.0) ∙ ap died_of found.0)

        by : (b : Bool) → at_most h e.1.died ≡ b → next_older_stays c h v ≡ not b
        by false g = any_In is_open_older w (finmap.keys c.rows) (get-key c.rows w row.0 row.1) (λ i. next i && not ((ended ∙ g) i))
        by true g = none_where (λ u o.
            let x = in_chain u o.row o.here o.same in
            let before = o.less in
            let up = found.1.1 u.born x.0 x.1 (seen u.born x.0 (omega arith) x.2) in
            elim (cases_lt u.born e.0) [
              | inl lt ↦ true≢false (sym (any_In (replaces (v.born - 1) u) w (finmap.keys c.rows) (get-key c.rows w row.0 row.1) (replaces_from (v.born - 1) u w o.same lt (leb-true e.0 (v.born - 1) parts.0))) ∙ o.last)
              | inr le ↦
                  let born : u.born ≡ e.0 = omega arith in
                  let one : u ≡ w = λ i. version_of (o.same i) (born i) in
                  true≢false (sym (ap (λ (z : VersionKey). ended_by c.ends h z) one ∙ ended ∙ g) ∙ o.stays)
            ])

-- a key of which nothing is known has no row
pub row_unknown : (c : Content) (k : RowKey) → ((born : ℕ) → known_at (facts_of_content c) (version_of k born) ≡ None) → (born : ℕ) → finmap.get c.rows (version_of k born) ≡ None
row_unknown c k none born = sym (known_row (facts_of_content c) (version_of k born)) ∙ ap row_of (none born)

-- ---- lists of versions

-- a test of the keys of a map, by a list that has each that passes
pub any_of_map : {X : Type 0} (m : finmap.FinMap version_key_cmp X) (p : VersionKey → Bool) (ks : List VersionKey) → ((v : VersionKey) → (is_some (finmap.get m v) && p v) ≡ true → is_among ks v ≡ true) → list_any (λ v. is_some (finmap.get m v) && p v) ks ≡ list_any p (finmap.keys m)
any_of_map m p ks among =
    same_any (eq_by_cmp version_key_cmp) (λ a. ap is_eq (tied_itself version_key_total a)) (λ a b e. version_key_same a b (equal _ e)) (λ v. is_some (finmap.get m v) && p v) ks (finmap.keys m) among (λ v e. sym (finmap.contains_key-keys m v) ∙ (and_parts (is_some (finmap.get m v)) (p v) e).0)
    ∙ all_here (finmap.keys m) (λ v i. ap is_some (key_row m v i).1)
  where
    all_here : (vs : List VersionKey) → ((v : VersionKey) → In v vs → is_some (finmap.get m v) ≡ true) → list_any (λ v. is_some (finmap.get m v) && p v) vs ≡ list_any p vs
    all_here [] here = refl
    all_here (v ∷ vs) here = λ i. (here v (inl refl) i && p v) || all_here vs (λ w j. here w (inr j)) i

pub any_keys : {X : Type 0} (p : VersionKey → Bool) (es : List (VersionKey × X)) → list_any (λ e. p e.0) es ≡ list_any p (map (λ e. e.0) es)
any_keys p [] = refl
any_keys p (e ∷ es) = ap (λ b. p e.0 || b) (any_keys p es)

-- of a list of what has ended by the horizon
pub touches_by_ended : (c : Content) (h : ℕ) (vs : List VersionKey) → ((v : VersionKey) → is_among vs v ≡ ended_by c.ends h v) → list_any (λ v. is_some (finmap.get c.rows v) && uncovers c h v) vs ≡ prune_touches_past c h
touches_by_ended c h vs ended = any_of_map c.rows (uncovers c h) vs (λ v e. ended v ∙ (and_parts (ended_by c.ends h v) _ (and_parts (is_some (finmap.get c.rows v)) (uncovers c h v) e).1).0)

-- a row of facts stands in the list of their versions
pub row_listed : (f : FactsValue) (es : List (VersionKey × VersionValue)) → AreVersions f es → (v : VersionKey) → is_some (finmap.get f.rows v) ≡ true → is_among (map (λ e. e.0) es) v ≡ true
row_listed f es are v e = sym (are.all v) ∙ known_fact f v ∙ (λ i. e i || is_some (finmap.get f.ends v))

-- of a walk over all versions
pub touches_by_walk : (c : Content) (h : ℕ) (es : List (VersionKey × VersionValue)) → AreVersions (facts_of_content c) es → list_any (λ e. is_some (finmap.get c.rows e.0) && uncovers c h e.0) es ≡ prune_touches_past c h
touches_by_walk c h es are =
    any_keys (λ v. is_some (finmap.get c.rows v) && uncovers c h v) es
    ∙ any_of_map c.rows (uncovers c h) (map (λ e. e.0) es) (λ v e. row_listed (facts_of_content c) es are v (and_parts (is_some (finmap.get c.rows v)) (uncovers c h v) e).0)
