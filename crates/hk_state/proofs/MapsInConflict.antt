-- Conflicts between maps of which one is a union.
use Rattle.std.proofs.Common.{◌≡◌, refl, sym, ap, ◌∙◌, Bool, true, false, ◌||◌, Option, Some, None, ◌⊎◌, inl, inr, true≢false, ◌++◌, List}
use Rattle.std.proofs.lemmas.Bool.{not-false}
use Rattle.std.specs.FinMap as finmap
use Rattle.hk_types.specs.declared.version_key.VersionKey.{VersionKey}
use Rattle.hk_log.specs.declared.item.Item.{Item}
use Rattle.hk_model.specs.History.Facts.{rows_of, ends_of}
use Rattle.hk_model.specs.History.Rows.{version_key_cmp}
use Rattle.hk_model.specs.Replica.Maps.{or_else, values_conflict, union, maps_conflict}
use Rattle.hk_model.proofs.Replica.Joins.{rows_of-append, ends_of-append}
use Rattle.hk_model.proofs.Replica.Maps.{version_key_total, version_key_same, get-union, no_entry_conflict}
use Rattle.hk_model.proofs.Replica.Shown.{any_In, get-key}
use Rattle.hk_model.proofs.Replica.Visible.{any_where}

or_else-assoc : {X : Type 0} (a b c : Option X) → or_else (or_else a b) c ≡ or_else a (or_else b c)
or_else-assoc None b c = refl
or_else-assoc (Some x) b c = refl

abbrev FactMap : Type 0 → Type 0
FactMap X = finmap.FinMap version_key_cmp X

module _ {X : Type 0} where
  pub union_assoc : (a b c : FactMap X) → union (union a b) c ≡ union a (union b c)
  union_assoc a b c = finmap.same_map version_key_total version_key_same _ _ (λ v.
      get-union version_key_total version_key_same (union a b) c v
      ∙ ap (λ o. or_else o (finmap.get c v)) (get-union version_key_total version_key_same a b v)
      ∙ or_else-assoc (finmap.get a v) (finmap.get b v) (finmap.get c v)
      ∙ sym (get-union version_key_total version_key_same a (union b c) v ∙ ap (or_else (finmap.get a v)) (get-union version_key_total version_key_same b c v)))

  module _ (same : X → X → Bool) where
    abbrev at : FactMap X → FactMap X → VersionKey → Bool
    at m n v = values_conflict same (finmap.get m v) (finmap.get n v)

    somewhere : (m n : FactMap X) → maps_conflict same m n ≡ true → (v : VersionKey) × (at m n v ≡ true)
    somewhere m n e = let w = any_where (λ k. values_conflict same (finmap.get m k) (finmap.get n k)) (finmap.keys m) e in (w.0, w.2)

    from_one : (m n : FactMap X) (v : VersionKey) → at m n v ≡ true → maps_conflict same m n ≡ true
    from_one m n v e = by (finmap.get m v) refl
      where
        by : (o : Option X) → finmap.get m v ≡ o → maps_conflict same m n ≡ true
        by None g = absurd (true≢false (sym e ∙ ap (λ o. values_conflict same o (finmap.get n v)) g))
        by (Some z) g = any_In (λ k. values_conflict same (finmap.get m k) (finmap.get n k)) v (finmap.keys m) (get-key m v z g) e

    nowhere : (m n : FactMap X) → maps_conflict same m n ≡ false → (v : VersionKey) → at m n v ≡ false
    nowhere m n none v = by (at m n v) refl
      where
        by : (b : Bool) → at m n v ≡ b → b ≡ false
        by true e = absurd (true≢false (sym (from_one m n v e) ∙ none))
        by false e = refl

    -- one more that conflicts nowhere
    neither : (x y z : Option X) → values_conflict same x y ≡ false → values_conflict same x z ≡ false → values_conflict same x (or_else y z) ≡ false
    neither x None z e f = f
    neither x (Some b) z e f = e

    pub still_agrees : (m a b : FactMap X) → maps_conflict same m a ≡ false → maps_conflict same m b ≡ false → maps_conflict same m (union a b) ≡ false
    still_agrees m a b e f = no_entry_conflict version_key_total version_key_same same m (union a b) (λ v.
        ap (values_conflict same (finmap.get m v)) (get-union version_key_total version_key_same a b v)
        ∙ neither (finmap.get m v) (finmap.get a v) (finmap.get b v) (nowhere m a e v) (nowhere m b f v))

    of_either : (x y z : Option X) → values_conflict same (or_else x y) z ≡ true → (values_conflict same x z ≡ true) ⊎ (values_conflict same y z ≡ true)
    of_either None y z e = inr e
    of_either (Some a) y z e = inl e

    of_first : (x y z : Option X) → values_conflict same x z ≡ true → values_conflict same (or_else x y) z ≡ true
    of_first None y z e = absurd (true≢false (sym e))
    of_first (Some a) y z e = e

    module _ (tells : (a b : X) → same a b ≡ true → a ≡ b) where
      of_second : (x y z : Option X) → values_conflict same x y ≡ false → values_conflict same y z ≡ true → values_conflict same (or_else x y) z ≡ true
      of_second None y z n e = e
      of_second (Some a) None z n e = absurd (true≢false (sym e))
      of_second (Some a) (Some b) z n e = ap (λ k. values_conflict same (Some k) z) (tells a b (not-false (same a b) n)) ∙ e

      or_by : (l a b : Bool) → (l ≡ true → (a ≡ true) ⊎ (b ≡ true)) → (a ≡ true → l ≡ true) → (b ≡ true → l ≡ true) → l ≡ (a || b)
      or_by l true b f g h = g refl
      or_by l false true f g h = h refl
      or_by false false false f g h = refl
      or_by true false false f g h = elim (f refl) [ inl e ↦ sym e | inr e ↦ sym e ]

      -- a union conflicts with a map where one of its parts does, if these agree
      pub union_conflicts : (a b r : FactMap X) → maps_conflict same a b ≡ false → maps_conflict same (union a b) r ≡ (maps_conflict same a r || maps_conflict same b r)
      union_conflicts a b r agree =
          or_by (maps_conflict same (union a b) r) (maps_conflict same a r) (maps_conflict same b r) from_union from_first from_second
        where
          at_union : (v : VersionKey) → values_conflict same (finmap.get (union a b) v) (finmap.get r v) ≡ values_conflict same (or_else (finmap.get a v) (finmap.get b v)) (finmap.get r v)
          at_union v = ap (λ o. values_conflict same o (finmap.get r v)) (get-union version_key_total version_key_same a b v)

          from_union : maps_conflict same (union a b) r ≡ true → (maps_conflict same a r ≡ true) ⊎ (maps_conflict same b r ≡ true)
          from_union e =
              let w = somewhere (union a b) r e in
              elim (of_either (finmap.get a w.0) (finmap.get b w.0) (finmap.get r w.0) (sym (at_union w.0) ∙ w.1)) [ inl k ↦ inl (from_one a r w.0 k) | inr k ↦ inr (from_one b r w.0 k) ]

          from_first : maps_conflict same a r ≡ true → maps_conflict same (union a b) r ≡ true
          from_first e = let w = somewhere a r e in from_one (union a b) r w.0 (at_union w.0 ∙ of_first (finmap.get a w.0) (finmap.get b w.0) (finmap.get r w.0) w.1)

          from_second : maps_conflict same b r ≡ true → maps_conflict same (union a b) r ≡ true
          from_second e = let w = somewhere b r e in from_one (union a b) r w.0 (at_union w.0 ∙ of_second (finmap.get a w.0) (finmap.get b w.0) (finmap.get r w.0) (nowhere a b agree w.0) w.1)

-- the facts of items, and then of others, are those of all
pub rows_both : (p q : List Item) → union (rows_of p) (rows_of q) ≡ rows_of (p ++ q)
rows_both p q = finmap.same_map version_key_total version_key_same _ _ (λ v. get-union version_key_total version_key_same (rows_of p) (rows_of q) v ∙ sym (rows_of-append p q v))

pub ends_both : (p q : List Item) → union (ends_of p) (ends_of q) ≡ ends_of (p ++ q)
ends_both p q = finmap.same_map version_key_total version_key_same _ _ (λ v. get-union version_key_total version_key_same (ends_of p) (ends_of q) v ∙ sym (ends_of-append p q v))
