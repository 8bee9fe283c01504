-- What a content shows of a row, told by the chain of the row.
use Rattle.std.proofs.Common.{◌≡◌, cond, refl, sym, ap, ◌∙◌, subst, ℕ, ◌≤◌, Bool, true, false, ◌&&◌, ◌==◌, Option, Some, None, inl, inr, leb, nat_le, nat_lt, le-leb, leb-true, ltb-true, eqb-true, eq-eqb, not, true≢false, arith}
use Rattle.std.proofs.lemmas.Bool.{and_parts, cases_lt}
use Rattle.std.specs.Option.{is_some}
use Rattle.std.specs.List.{list_any}
use Rattle.std.specs.FinMap as finmap
use Rattle.hk_types.specs.Values.{RowValue}
use Rattle.hk_types.specs.declared.version_key.VersionKey.{VersionKey}
use Rattle.hk_log.specs.Versions.{VersionValue}
use Rattle.hk_model.specs.History.Rows.{RowKey, version_key_cmp, version_of}
use Rattle.hk_model.specs.Replica.Content.{Content, at_most, ended_by}
use Rattle.hk_model.specs.Replica.Answers.{replaces, shows, visible}
use Rattle.hk_model.proofs.Replica.Maps.{version_key_total}
use Rattle.hk_model.proofs.Replica.Members.{In-map}
use Rattle.hk_model.proofs.Replica.Visible.{get_entry, any_where, not_from}
use Rattle.hk_model.proofs.Replica.Shown.{Shows, shows_parts, shows_from, any_In, get-key, replaces_from, visible_row, none_visible}
use Rattle.hk_facts.specs.Facts.{row_of, died_of}
use Rattle.hk_facts.specs.Chains.{ChainValue, latest_at, row_at, shown, picked}
use Rattle.hk_facts.proofs.LatestVersion.{newest, no_newest}

-- a chain has what the content has of the row
pub record IsChainOf (c : Content) (k : RowKey) (chain : ChainValue) : Type 0 where
  pub rows : (born : ℕ) → row_of (finmap.get chain born) ≡ finmap.get c.rows (version_of k born)
  pub ends : (born : ℕ) → died_of (finmap.get chain born) ≡ finmap.get c.ends (version_of k born)

-- a version with a row stands in the chain
record Represents (chain : ChainValue) (born : ℕ) (r : RowValue) : Type 0 where
  version : VersionValue
  here : finmap.get chain born ≡ Some version
  row : version.row ≡ Some r

represents : (chain : ChainValue) (born : ℕ) (r : RowValue) → row_of (finmap.get chain born) ≡ Some r → Represents chain born r
represents chain born r e = by (finmap.get chain born) refl e
  where
    by : (x : Option VersionValue) → finmap.get chain born ≡ x → row_of x ≡ Some r → Represents chain born r
    by None h f = absurd cc
    by (Some v) h f = record { version = v; here = h; row = f }

there : (x : Option RowValue) (r : RowValue) → x ≡ Some r → is_some x ≡ true
there x r e = ap is_some e

there_row : (x : Option RowValue) → is_some x ≡ true → (r : RowValue) × (x ≡ Some r)
there_row None e = absurd (true≢false (sym e))
there_row (Some r) e = (r, refl)

pair_is : (x y : ℕ × VersionValue) → Some x ≡ Some y → x ≡ y
pair_is x y e = cc

none_row : (r : RowValue) → None ≡ Some r → ⊥
none_row r e = cc

none_is : (x : ℕ × VersionValue) → None ≡ Some x → ⊥
none_is x e = cc

-- no version with a row that is born by t is later than the one that shows
at_most_born : (c : Content) (k : RowKey) (t born later : ℕ) (r : RowValue) → Shows c t (version_of k born) → finmap.get c.rows (version_of k later) ≡ Some r → later ≤ t → later ≤ born
at_most_born c k t born later r p here within =
    elim (cases_lt born later) [
      | inl lt ↦ absurd (true≢false (sym (any_In (replaces t (version_of k born)) (version_of k later) (finmap.keys c.rows) (get-key c.rows (version_of k later) r here) (replaces_from t (version_of k born) (version_of k later) refl lt within)) ∙ p.latest))
      | inr le ↦ le
    ]

module _ (c : Content) (k : RowKey) (chain : ChainValue) (is : IsChainOf c k chain) (t : ℕ) where
  -- the latest version that has no end by t shows
  pub latest_shows : (e : ℕ × VersionValue) → latest_at chain t ≡ Some e → at_most t e.1.died ≡ false → (r : RowValue) × (e.1.row ≡ Some r) × (finmap.get c.rows (version_of k e.0) ≡ Some r) × (shows c t (version_of k e.0) ≡ true)
  latest_shows e latest open_at_t =
      let n = newest chain t e latest in
      let row = there_row e.1.row n.2 in
      let here : finmap.get c.rows (version_of k e.0) ≡ Some row.0 = sym (is.rows e.0) ∙ ap row_of n.0 ∙ row.1 in
      let unended : ended_by c.ends t (version_of k e.0) ≡ false = ap (at_most t) (sym (is.ends e.0) ∙ ap died_of n.0) ∙ open_at_t in
      let alone : list_any (replaces t (version_of k e.0)) (finmap.keys c.rows) ≡ false = not_from _ (λ y.
      let w = any_where (replaces t (version_of k e.0)) (finmap.keys c.rows) y in
      let x = In-map (λ (z : VersionKey × RowValue). z.0) w.0 (finmap.entries c.rows) w.1 in
      let got = get_entry version_key_cmp version_key_total c.rows x.0.0 x.0.1 x.1 in
      let q = subst (λ (v : VersionKey). replaces t (version_of k e.0) v ≡ true) x.2 w.2 in
      let a = and_parts (((k.table == x.0.0.table) && (k.key == x.0.0.key)) && nat_lt e.0 x.0.0.born) (nat_le x.0.0.born t) q in
      let b = and_parts ((k.table == x.0.0.table) && (k.key == x.0.0.key)) (nat_lt e.0 x.0.0.born) a.0 in
      let d = and_parts (k.table == x.0.0.table) (k.key == x.0.0.key) b.0 in
      let same : version_of k x.0.0.born ≡ x.0.0 = λ i. record { table = eqb-true k.table x.0.0.table d.0 i; key = eqb-true k.key x.0.0.key d.1 i; born = x.0.0.born } in
      let later = ltb-true e.0 x.0.0.born b.1 in
      let s = represents chain x.0.0.born x.0.1 (is.rows x.0.0.born ∙ ap (finmap.get c.rows) same ∙ got) in
      let bound = n.3 x.0.0.born s.version s.here a.1 (there s.version.row x.0.1 s.row) in
      omega arith) in
      (row.0, row.1, here, shows_from c t (version_of k e.0) (record { born = leb-true e.0 t n.1; latest = alone; unended = unended }))

  -- the version that shows is the latest, and has no end by t
  pub shows_latest : (born : ℕ) (r : RowValue) → finmap.get c.rows (version_of k born) ≡ Some r → shows c t (version_of k born) ≡ true → (v : VersionValue) × (latest_at chain t ≡ Some (born, v)) × (v.row ≡ Some r) × (at_most t v.died ≡ false)
  shows_latest born r here shown =
      let p = shows_parts c t (version_of k born) shown in
      let s = represents chain born r (is.rows born ∙ here) in
      let by_t : leb born t ≡ true = le-leb born t p.born in
      by s p by_t (latest_at chain t) refl
    where
      by : Represents chain born r → Shows c t (version_of k born) → leb born t ≡ true → (o : Option (ℕ × VersionValue)) → latest_at chain t ≡ o → (v : VersionValue) × (latest_at chain t ≡ Some (born, v)) × (v.row ≡ Some r) × (at_most t v.died ≡ false)
      by s p by_t None e = absurd (no_newest chain t e born s.version s.here by_t (there s.version.row r s.row))
      by s p by_t (Some e) latest =
          let n = newest chain t e latest in
          let up = n.3 born s.version s.here by_t (there s.version.row r s.row) in
          let row = there_row e.1.row n.2 in
          let stored : finmap.get c.rows (version_of k e.0) ≡ Some row.0 = sym (is.rows e.0) ∙ ap row_of n.0 ∙ row.1 in
          let down : e.0 ≤ born = at_most_born c k t born e.0 row.0 p stored (leb-true e.0 t n.1) in
          let same : e.0 ≡ born = omega arith in
          let version : Some e.1 ≡ Some s.version = sym n.0 ∙ ap (finmap.get chain) same ∙ s.here in
          let one : e.1 ≡ s.version = cc in
          let open_at_t : at_most t s.version.died ≡ false = ap (at_most t) (sym (ap died_of s.here) ∙ is.ends born) ∙ p.unended in
          (s.version, latest ∙ (λ i. Some (same i, one i)), s.row, open_at_t)

  -- the row of the chain at t is the visible one
  pub chain_visible : finmap.get (visible c t) k ≡ row_at chain t
  chain_visible = by (latest_at chain t) refl
    where
      found : (e : ℕ × VersionValue) → latest_at chain t ≡ Some e → (b : Bool) → at_most t e.1.died ≡ b → finmap.get (visible c t) k ≡ cond b None e.1.row
      found e latest true ended = none_visible c t k (λ born r here. not_from _ (λ y.
          let s = shows_latest born r here y in
          let same : Some e ≡ Some (born, s.0) = sym latest ∙ s.1 in
          let one = pair_is e (born, s.0) same in
          true≢false (sym ended ∙ ap (λ (z : ℕ × VersionValue). at_most t z.1.died) one ∙ s.3)))
      found e latest false open_at_t = let s = latest_shows e latest open_at_t in visible_row c t (version_of k e.0) s.0 s.2 s.3 ∙ sym s.1

      by : (o : Option (ℕ × VersionValue)) → latest_at chain t ≡ o → finmap.get (visible c t) k ≡ shown t o
      by None none = none_visible c t k (λ born r here. not_from _ (λ y.
          let s = shows_latest born r here y in
          let same : None ≡ Some (born, s.0) = sym none ∙ s.1 in
          absurd (none_is (born, s.0) same)))
      by (Some e) latest = found e latest (at_most t e.1.died) refl

  -- the row of a version that shows is that of the chain's latest
  pub shown_by : (born : ℕ) → cond (shows c t (version_of k born)) (finmap.get c.rows (version_of k born)) None ≡ picked t born (latest_at chain t)
  shown_by born = by (shows c t (version_of k born)) (finmap.get c.rows (version_of k born)) (latest_at chain t) refl refl refl
    where
      -- what is picked has a row, and shows
      other : (e : ℕ × VersionValue) → latest_at chain t ≡ Some e → (b d : Bool) → (e.0 == born) ≡ b → at_most t e.1.died ≡ d → ((r : RowValue) → finmap.get c.rows (version_of k born) ≡ Some r → shows c t (version_of k born) ≡ true → ⊥) → None ≡ cond (b && not d) e.1.row None
      other e latest true false same open_at_t never =
          let s = latest_shows e latest open_at_t in
          let one : e.0 ≡ born = eqb-true e.0 born same in
          absurd (never s.0 (ap (λ n. finmap.get c.rows (version_of k n)) (sym one) ∙ s.2) (ap (λ n. shows c t (version_of k n)) (sym one) ∙ s.3))
      other e latest true true same open_at_t never = refl
      other e latest false d same open_at_t never = refl

      by : (b : Bool) (x : Option RowValue) (o : Option (ℕ × VersionValue)) → shows c t (version_of k born) ≡ b → finmap.get c.rows (version_of k born) ≡ x → latest_at chain t ≡ o → cond b x None ≡ picked t born o
      by true (Some r) o shown here latest =
          let s = shows_latest born r here shown in
          let open_at_t : at_most t s.0.died ≡ false = s.3 in
          let picks : picked t born (Some (born, s.0)) ≡ Some r = (λ i. cond ((eq-eqb born born refl i) && not (open_at_t i)) s.0.row None) ∙ s.2 in
          sym (ap (picked t born) (sym latest ∙ s.1) ∙ picks)
      by true None None shown here latest = refl
      by true None (Some e) shown here latest = other e latest (e.0 == born) (at_most t e.1.died) refl refl (λ r there _. absurd (none_row r (sym here ∙ there)))
      by false x None shown here latest = refl
      by false x (Some e) shown here latest = other e latest (e.0 == born) (at_most t e.1.died) refl refl (λ r there y. true≢false (sym y ∙ shown))
