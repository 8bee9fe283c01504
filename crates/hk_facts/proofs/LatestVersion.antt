-- The version that a chain shows at a time, in the words of look-ups.
use Rattle.std.proofs.Common.{◌≡◌, refl, sym, ap, ◌∙◌, subst, ℕ, ◌<◌, ◌≤◌, Bool, true, false, true≢false, cond, not, ◌&&◌, T, Option, Some, None, List, [], ◌∷◌, nat_cmp, nat_le, nat_lt, is_lt, leb, arith}
use Rattle.std.specs.Cmp.{first_so, second_so}
use Rattle.std.proofs.lemmas.Bool.Decides.{nat_tests}
use Rattle.std.specs.Option.{is_some}
use Rattle.std.specs.Ordering.{eq_by_cmp}
use Rattle.std.specs.FinMap as finmap
use Rattle.std.specs.FinMap.{find}
use Rattle.std.specs.FinMap.Entries.{is_sorted, below_all}
use Rattle.hk_log.specs.Versions.{VersionValue}
use Rattle.hk_model.specs.Replica.Maps.{or_else}
use Rattle.hk_model.proofs.Replica.Visible.{T_both}
use Rattle.hk_facts.specs.Chains.{ChainValue, latest_at, last_where}
use Rattle.hk_facts.specs.Parted.{later_of, is_later}
use Rattle.hk_facts.proofs.StoredTrees.{tied_self, tied_same}
use Rattle.hk_facts.proofs.LastOfList.{has_row}

less : (a b : ℕ) → T (is_lt (nat_cmp a b)) → a < b
less a b t = grind (arith, nat_tests)

module _ {X : Type 0} where
  -- a key that is found is above what is below all keys
  below_found : (a b : ℕ) (w : X) (es : List (ℕ × X)) → T (below_all nat_cmp a es) → find nat_cmp b es ≡ Some w → a < b
  below_found a b w [] h e = cc
  below_found a b w (x ∷ xs) h e = cases (below_found a b w xs (T_both _ _ h).1) (eq_by_cmp nat_cmp b x.0) refl e
    where
      cases : (find nat_cmp b xs ≡ Some w → a < b) → (t : Bool) → eq_by_cmp nat_cmp b x.0 ≡ t → cond t (Some x.1) (find nat_cmp b xs) ≡ Some w → a < b
      cases later true t f = subst (λ n. a < n) (sym (tied_same b x.0 t)) (less a x.0 (T_both _ _ h).0)
      cases later false t f = later f

  pub none_passes : (p : ℕ × X → Bool) (es : List (ℕ × X)) → last_where p es ≡ None → (b : ℕ) (w : X) → find nat_cmp b es ≡ Some w → p (b, w) ≡ true → ⊥
  none_passes p [] e b w f t = cc
  none_passes p (x ∷ xs) e b w f t = cases (λ none g. none_passes p xs none b w g t) (eq_by_cmp nat_cmp b x.0) refl f
    where
      rest : (o r : Option (ℕ × X)) → or_else o r ≡ None → o ≡ None
      rest None r is = refl
      rest (Some y) r is = cc

      here : (o : Option (ℕ × X)) → or_else o (cond (p x) (Some x) None) ≡ None → p x ≡ true → ⊥
      here None is passes = cc (sym (ap (λ c. cond c (Some x) None) passes) ∙ is)
      here (Some y) is passes = cc

      cases : (last_where p xs ≡ None → find nat_cmp b xs ≡ Some w → ⊥) → (c : Bool) → eq_by_cmp nat_cmp b x.0 ≡ c → cond c (Some x.1) (find nat_cmp b xs) ≡ Some w → ⊥
      cases later true c g =
          let key : x.0 ≡ b = sym (tied_same b x.0 c) in
          let value : x.1 ≡ w = cc in
          here (last_where p xs) e ((λ i. p (key i, value i)) ∙ t)
      cases later false c g = later (rest (last_where p xs) _ e) g

  -- what the last that passes is, where the keys rise
  pub record IsLast (p : ℕ × X → Bool) (es : List (ℕ × X)) (e : ℕ × X) : Type 0 where
    pub found : find nat_cmp e.0 es ≡ Some e.1
    pub passes : p e ≡ true
    pub last : (b : ℕ) (w : X) → find nat_cmp b es ≡ Some w → p (b, w) ≡ true → b ≤ e.0

  pub last_passes : (p : ℕ × X → Bool) (es : List (ℕ × X)) (e : ℕ × X) → T (is_sorted nat_cmp es) → last_where p es ≡ Some e → IsLast p es e
  last_passes p [] e h is = cc
  last_passes p (x ∷ xs) e h is = cases (λ some. last_passes p xs e (T_both _ _ h).1 some) (last_where p xs) refl is
    where
      later : IsLast p xs e → IsLast p (x ∷ xs) e
      later l =
          let above : x.0 < e.0 = below_found x.0 e.0 e.1 xs (T_both _ _ h).0 l.found in
          let apart : eq_by_cmp nat_cmp e.0 x.0 ≡ false = grind (arith, nat_tests) in
          record {
            found = ap (λ c. cond c (Some x.1) (find nat_cmp e.0 xs)) apart ∙ l.found;
            passes = l.passes;
            last = λ b w f t. bound b w above (eq_by_cmp nat_cmp b x.0) refl f t l;
          }
        where
          bound : (b : ℕ) (w : X) → x.0 < e.0 → (c : Bool) → eq_by_cmp nat_cmp b x.0 ≡ c → cond c (Some x.1) (find nat_cmp b xs) ≡ Some w → p (b, w) ≡ true → IsLast p xs e → b ≤ e.0
          bound b w above true c f t l = let key : b ≡ x.0 = tied_same b x.0 c in omega arith
          bound b w above false c f t l = l.last b w f t

      this : last_where p xs ≡ None → p x ≡ true → IsLast p (x ∷ xs) x
      this none t =
          record {
            found = ap (λ c. cond c (Some x.1) (find nat_cmp x.0 xs)) (tied_self x.0);
            passes = t;
            last = λ b w f u. bound b w (eq_by_cmp nat_cmp b x.0) refl f u;
          }
        where
          bound : (b : ℕ) (w : X) → (c : Bool) → eq_by_cmp nat_cmp b x.0 ≡ c → cond c (Some x.1) (find nat_cmp b xs) ≡ Some w → p (b, w) ≡ true → b ≤ x.0
          bound b w true c f u = let key : b ≡ x.0 = tied_same b x.0 c in omega arith
          bound b w false c f u = absurd (none_passes p xs none b w f u)

      only : (c : Bool) → p x ≡ c → cond c (Some x) None ≡ Some e → (p x ≡ true) × (x ≡ e)
      only true c g = (c, cc)
      only false c g = cc

      cases : (last_where p xs ≡ Some e → IsLast p xs e) → (o : Option (ℕ × X)) → last_where p xs ≡ o → or_else o (cond (p x) (Some x) None) ≡ Some e → IsLast p (x ∷ xs) e
      cases before None none g = let o = only (p x) refl g in subst (λ (y : ℕ × X). IsLast p (x ∷ xs) y) o.1 (this none o.0)
      cases before (Some y) some g = later (before (some ∙ g))

-- what a chain's last version with a row, born by t, is
pub newest : (c : ChainValue) (t : ℕ) (e : ℕ × VersionValue) → last_where (λ e. leb e.0 t && has_row e) (finmap.entries c) ≡ Some e
    → (finmap.get c e.0 ≡ Some e.1) × (leb e.0 t ≡ true) × (is_some e.1.row ≡ true) × ((b : ℕ) (w : VersionValue) → finmap.get c b ≡ Some w → leb b t ≡ true → is_some w.row ≡ true → b ≤ e.0)
newest c t e is =
    let l = last_passes (λ e. leb e.0 t && has_row e) (finmap.entries c) e (finmap.entries_sorted c) is in (
      finmap.get-entries c e.0 ∙ l.found,
      first_so (leb e.0 t) (has_row e) l.passes,
      second_so (leb e.0 t) (has_row e) l.passes,
      λ b w f g h. l.last b w (sym (finmap.get-entries c b) ∙ f) (ap (λ x. x && is_some w.row) g ∙ h),
    )

-- where there is none, no version born by t has a row
pub no_newest : (c : ChainValue) (t : ℕ) → last_where (λ e. leb e.0 t && has_row e) (finmap.entries c) ≡ None → (b : ℕ) (w : VersionValue) → finmap.get c b ≡ Some w → leb b t ≡ true → is_some w.row ≡ true → ⊥
no_newest c t is b w f g h = none_passes (λ e. leb e.0 t && has_row e) (finmap.entries c) is b w (sym (finmap.get-entries c b) ∙ f) (ap (λ x. x && is_some w.row) g ∙ h)

-- ---- the latest at a time

module _ (t : ℕ) where
  abbrev shows : ℕ × VersionValue → Bool
  shows e = nat_le e.0 t && is_some e.1.row

  -- what the latest is, in the words of look-ups
  abbrev pub IsLatest : ChainValue → Option (ℕ × VersionValue) → Type 0
  IsLatest c None = (b : ℕ) (w : VersionValue) → finmap.get c b ≡ Some w → shows (b, w) ≡ true → ⊥
  IsLatest c (Some e) = (finmap.get c e.0 ≡ Some e.1) × ((shows e ≡ true) × ((b : ℕ) (w : VersionValue) → finmap.get c b ≡ Some w → shows (b, w) ≡ true → b ≤ e.0))

  pub is_latest : (c : ChainValue) → IsLatest c (latest_at c t)
  is_latest c = by (latest_at c t) refl
    where
      by : (o : Option (ℕ × VersionValue)) → last_where shows (finmap.entries c) ≡ o → IsLatest c o
      by None e = λ b w g p. none_passes shows (finmap.entries c) e b w (sym (finmap.get-entries c b) ∙ g) p
      by (Some f) e =
          let l = last_passes shows (finmap.entries c) f (finmap.entries_sorted c) e in
          (finmap.get-entries c f.0 ∙ l.found, (l.passes, λ b w g p. l.last b w (sym (finmap.get-entries c b) ∙ g) p))

  pub one_latest : (c : ChainValue) (x y : Option (ℕ × VersionValue)) → IsLatest c x → IsLatest c y → x ≡ y
  one_latest c None None p q = refl
  one_latest c None (Some f) p q = absurd (p f.0 f.1 q.0 q.1.0)
  one_latest c (Some e) None p q = absurd (q e.0 e.1 p.0 p.1.0)
  one_latest c (Some e) (Some f) p q =
      let up : e.0 ≤ f.0 = q.1.1 e.0 e.1 p.0 p.1.0 in
      let down : f.0 ≤ e.0 = p.1.1 f.0 f.1 q.0 q.1.0 in
      let born : e.0 ≡ f.0 = omega arith in
      let value = inside (sym p.0 ∙ ap (finmap.get c) born ∙ q.0) in
      λ i. Some (born i, value i)
    where
      inside : ◌≡◌ {A = Option VersionValue} (Some e.1) (Some f.1) → e.1 ≡ f.1
      inside same = cc

  pub wins : (x y : Option (ℕ × VersionValue)) → later_of x y ≡ cond (is_later x y) x y
  wins None y = refl
  wins (Some e) None = refl
  wins (Some e) (Some f) = by (nat_lt e.0 f.0) (nat_le f.0 e.0) (turned e.0 f.0)
    where
      turned : (a b : ℕ) → nat_le b a ≡ not (nat_lt a b)
      turned a b = grind (arith, nat_tests)

      by : (a b : Bool) → b ≡ not a → cond a (Some f) (Some e) ≡ cond b (Some e) (Some f)
      by true true e = absurd (true≢false e)
      by true false e = refl
      by false true e = refl
      by false false e = absurd (true≢false (sym e))
