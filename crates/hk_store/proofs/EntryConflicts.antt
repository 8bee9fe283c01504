-- A conflict of an entry is found by a walk over its lists.
use Rattle.std.proofs.Common.{◌≡◌, refl, sym, ap, ◌∙◌, ℕ, Bool, true, false, cond, ◌&&◌, ◌||◌, ◌==◌, nat_lt, T, Option, Some, None, List, [], ◌∷◌, ◌++◌, map, nat_cmp, is_eq, is_lt, Ordering, Less, Equal, Greater, arith}
use Rattle.std.proofs.lemmas.Bool.Decides.{nat_tests}
use Rattle.std.specs.Cmp.{tied_itself, first_so, second_so}
use Rattle.std.specs.List.{list_any}
use Rattle.std.specs.Ordering.{eq_by_cmp, ordering_then, ordering_reverse}
use Rattle.std.specs.FinMap as finmap
use Rattle.std.specs.FinMap.{find, is_sorted}
use Rattle.std.specs.FinMap.Entries.{below_all, same_entries}
use Rattle.std.proofs.lemmas.List.{append-nil}
use Rattle.hk_types.specs.Values.{RowValue, same_row}
use Rattle.hk_types.specs.declared.version_key.VersionKey.{VersionKey}
use Rattle.hk_log.specs.Items.{EntryValue, is_before, rise_after, end_place, row_place}
use Rattle.hk_log.specs.declared.item.Item.TheVariants.{Commit}
use Rattle.hk_model.specs.History.Rows.{version_key_cmp}
use Rattle.hk_model.specs.Replica.Maps.{values_conflict, maps_conflict}
use Rattle.hk_model.specs.History.Facts.{inserted_version, rows_of, ends_of}
use Rattle.hk_model.proofs.Replica.Maps.{version_key_total, version_key_same}
use Rattle.hk_model.proofs.Replica.Visible.{T_both, less}
use Rattle.hk_store.proofs.Conflicts.{maps_conflict_over}
use Rattle.hk_facts.proofs.StoredTrees.{and_T}

-- ---- lists that rise by place

before_trans : (p q r : ℕ × ℕ) → is_before p q ≡ true → is_before q r ≡ true → is_before p r ≡ true
before_trans p q r e f = grind (arith, nat_tests)

before_less : (a b c d s t : ℕ) → (nat_lt a c || (a == c && nat_lt b d)) ≡ true → T (is_lt (ordering_then (nat_cmp a c) (ordering_then (nat_cmp b d) (nat_cmp s t))))
before_less a b c d s t e = cases (nat_cmp a c) (nat_cmp b d) refl refl
  where
    cases : (x y : Ordering) → nat_cmp a c ≡ x → nat_cmp b d ≡ y → T (is_lt (ordering_then x (ordering_then y (nat_cmp s t))))
    cases Less y h k = tt
    cases Equal Less h k = tt
    cases Equal Equal h k = absurd (grind (arith, nat_tests))
    cases Equal Greater h k = absurd (grind (arith, nat_tests))
    cases Greater y h k = absurd (grind (arith, nat_tests))

module _ {A X : Type 0} (f : A → VersionKey × X) (place : A → ℕ × ℕ) (agree : (a b : A) → is_before (place a) (place b) ≡ true → T (is_lt (version_key_cmp (f a).0 (f b).0))) where
  above_first : (a : A) (xs : List A) → rise_after (Some (place a)) (map place xs) ≡ true → T (below_all version_key_cmp (f a).0 (map f xs))
  above_first a [] e = tt
  above_first a (x ∷ xs) e =
      let first = first_so (is_before (place a) (place x)) _ e in
      and_T _ _ (agree a x first) (above_first a xs (through (place a) (place x) (map place xs) first (second_so (is_before (place a) (place x)) _ e)))
    where
      through : (p q : ℕ × ℕ) (ps : List (ℕ × ℕ)) → is_before p q ≡ true → rise_after (Some q) ps ≡ true → rise_after (Some p) ps ≡ true
      through p q [] b r = refl
      through p q (x ∷ xs) b r = (λ i. before_trans p q x b (first_so (is_before q x) _ r) i && second_so (is_before q x) _ r i)

  sorted_after : (o : Option (ℕ × ℕ)) (xs : List A) → rise_after o (map place xs) ≡ true → T (is_sorted version_key_cmp (map f xs))
  sorted_after o [] e = tt
  sorted_after None (x ∷ xs) e = and_T _ _ (above_first x xs e) (sorted_after (Some (place x)) xs e)
  sorted_after (Some p) (x ∷ xs) e =
      let rest = second_so (is_before p (place x)) _ e in
      and_T _ _ (above_first x xs rest) (sorted_after (Some (place x)) xs rest)

-- ---- a walk over the entries of a map

module _ {X : Type 0} (p : VersionKey → Option X → Bool) where
  skip_first : (e : VersionKey × X) (whole es : List (VersionKey × X)) → T (below_all version_key_cmp e.0 es) → list_any (λ k. p k (find version_key_cmp k (e ∷ whole))) (map (λ x. x.0) es) ≡ list_any (λ k. p k (find version_key_cmp k whole)) (map (λ x. x.0) es)
  skip_first e whole [] h = refl
  skip_first e whole (x ∷ xs) h = λ i. p x.0 (cond (apart i) (Some e.1) (find version_key_cmp x.0 whole)) || skip_first e whole xs (T_both _ _ h).1 i
    where
      apart : eq_by_cmp version_key_cmp x.0 e.0 ≡ false
      apart = ap is_eq (version_key_total.antisymm x.0 e.0 ∙ ap ordering_reverse (less (version_key_cmp e.0 x.0) (T_both (is_lt (version_key_cmp e.0 x.0)) (below_all version_key_cmp e.0 xs) h).0))

  any_entry : (es : List (VersionKey × X)) → T (is_sorted version_key_cmp es) → list_any (λ k. p k (find version_key_cmp k es)) (map (λ x. x.0) es) ≡ list_any (λ e. p e.0 (Some e.1)) es
  any_entry [] s = refl
  any_entry (e ∷ es) s = λ i. p e.0 (cond (ap is_eq (tied_itself version_key_total e.0) i) (Some e.1) (find version_key_cmp e.0 es)) || (skip_first e es es (T_both _ _ s).0 ∙ any_entry es (T_both _ _ s).1) i

pub any_map : {A B : Type 0} (p : B → Bool) (g : A → B) (xs : List A) → list_any p (map g xs) ≡ list_any (λ x. p (g x)) xs
any_map p g [] = refl
any_map p g (x ∷ xs) = ap (λ b. p (g x) || b) (any_map p g xs)

any_alike : {A : Type 0} (p q : A → Bool) → ((x : A) → p x ≡ q x) → (xs : List A) → list_any p xs ≡ list_any q xs
any_alike p q is [] = refl
any_alike p q is (x ∷ xs) = λ i. is x i || any_alike p q is xs i

module _ {A X : Type 0} (alike : X → X → Bool) (m : finmap.FinMap version_key_cmp X) (f : A → VersionKey × X) where
  listed : (xs : List A) → T (is_sorted version_key_cmp (map f xs)) → maps_conflict alike m (finmap.from_entries (map f xs ++ [])) ≡ list_any (λ x. values_conflict alike (finmap.get m (f x).0) (Some (f x).1)) xs
  listed xs s =
      ap (λ es. maps_conflict alike m (finmap.from_entries es)) (append-nil (map f xs))
      ∙ maps_conflict_over version_key_total version_key_same alike m n (finmap.keys n) (finmap.contains_key-keys n)
      ∙ any_alike _ _ (λ k. ap (λ o. values_conflict alike (finmap.get m k) o) (finmap.get-from_entries version_key_total (map f xs) k)) (finmap.keys n)
      ∙ ap (λ es. list_any (λ k. values_conflict alike (finmap.get m k) (find version_key_cmp k (map f xs))) (map (λ x. x.0) es)) same
      ∙ any_entry (λ k o. values_conflict alike (finmap.get m k) o) (map f xs) s
      ∙ any_map (λ e. values_conflict alike (finmap.get m e.0) (Some e.1)) f xs
    where
      n : finmap.FinMap version_key_cmp X
      n = finmap.from_entries (map f xs)

      same : finmap.entries (finmap.from_entries {R = version_key_cmp} (map f xs)) ≡ map f xs
      same = same_entries version_key_cmp version_key_total version_key_same (finmap.entries (finmap.from_entries (map f xs))) (map f xs) (finmap.entries_sorted (finmap.from_entries (map f xs))) s
          (λ q. sym (finmap.get-entries (finmap.from_entries (map f xs)) q) ∙ finmap.get-from_entries version_key_total (map f xs) q)

pub rows_sorted : (t : ℕ) (rows : List (ℕ × ℕ × RowValue)) → rise_after None (map row_place rows) ≡ true → T (is_sorted version_key_cmp (map (inserted_version t) rows))
rows_sorted t rows rise = sorted_after (inserted_version t) row_place (λ a b h. before_less a.0 a.1 b.0 b.1 t t h) None rows rise

pub ends_sorted : (t : ℕ) (ends : List VersionKey) → rise_after None (map end_place ends) ≡ true → T (is_sorted version_key_cmp (map (λ (v : VersionKey). (v, t)) ends))
ends_sorted t ends rise = sorted_after (λ v. (v, t)) end_place (λ a b h. before_less a.table a.key b.table b.key a.born b.born h) None ends rise

pub rows_listed : (m : finmap.FinMap version_key_cmp RowValue) (e : EntryValue) → rise_after None (map row_place e.rows) ≡ true → maps_conflict same_row m (rows_of (Commit e ∷ [])) ≡ list_any (λ r. values_conflict same_row (finmap.get m (inserted_version e.time r).0) (Some r.2)) e.rows
rows_listed m e rise = listed same_row m (inserted_version e.time) e.rows (rows_sorted e.time e.rows rise)

pub ends_listed : (m : finmap.FinMap version_key_cmp ℕ) (e : EntryValue) → rise_after None (map end_place e.ends) ≡ true → maps_conflict (λ a b. a == b) m (ends_of (Commit e ∷ [])) ≡ list_any (λ v. values_conflict (λ a b. a == b) (finmap.get m v) (Some e.time)) e.ends
ends_listed m e rise = listed (λ a b. a == b) m (λ v. (v, e.time)) e.ends (ends_sorted e.time e.ends rise)

pub row_conflict : (m : finmap.FinMap version_key_cmp RowValue) (e : EntryValue) (rows : List (ℕ × ℕ × RowValue)) (t : ℕ) (b : Bool) → rise_after None (map row_place e.rows) ≡ true → rows ≡ e.rows → t ≡ e.time → b ≡ list_any (λ r. values_conflict same_row (finmap.get m (inserted_version t r).0) (Some r.2)) rows → b ≡ maps_conflict same_row m (rows_of (Commit e ∷ []))
row_conflict m e rows t b rise is at found = found ∙ (λ i. list_any (λ r. values_conflict same_row (finmap.get m (inserted_version (at i) r).0) (Some r.2)) (is i)) ∙ sym (rows_listed m e rise)

pub end_conflict : (m : finmap.FinMap version_key_cmp ℕ) (e : EntryValue) (ends : List VersionKey) (t : ℕ) (b : Bool) → rise_after None (map end_place e.ends) ≡ true → ends ≡ e.ends → t ≡ e.time → b ≡ list_any (λ v. values_conflict (λ a b. a == b) (finmap.get m v) (Some t)) ends → b ≡ maps_conflict (λ a b. a == b) m (ends_of (Commit e ∷ []))
end_conflict m e ends t b rise is at found = found ∙ (λ i. list_any (λ v. values_conflict (λ a b. a == b) (finmap.get m v) (Some (at i))) (is i)) ∙ sym (ends_listed m e rise)

pub found_first : (r x y : Bool) → r ≡ x → r ≡ true → r ≡ (x || y)
found_first r x y is t = t ∙ ap (λ b. b || y) (sym t ∙ is)

pub found_second : (r s x y : Bool) → r ≡ x → r ≡ false → s ≡ y → s ≡ (x || y)
found_second r s x y is f e = e ∙ ap (λ b. b || y) (sym f ∙ is)
