-- The keys that are listed by tag.
use Rattle.std.proofs.Common.{◌≡◌, refl, sym, ap, ◌∙◌, ℕ, Bool, true, false, cond, ◌||◌, ◌==◌, List, [], ◌∷◌, ◌++◌, subst, Some, IsSome, nat_cmp, is_eq, Ordering, eqb-true, eq-eqb, arith}
use Rattle.std.proofs.lemmas.Bool.Decides.{nat_tests}
use Rattle.std.specs.Cmp.{IsTotalOrder, then_total, on_total, nat_cmp_total, Equal-is, tied_itself}
use Rattle.std.specs.List.{dedup, dedup_from}
use Rattle.std.specs.List.Sorted.{IsStrictlySortedBy}
use Rattle.std.specs.Ordering.{eq_by_cmp}
use Rattle.std.specs.FinMap as finmap
use Rattle.hk_index.specs.declared.tag_key.TagKey.{TagKey}
use Rattle.hk_slots.specs.SlotMaps.{Slots, map_of, IsWritten}
use Rattle.hk_index.specs.TagOrder.{tag_key_same}
use Rattle.hk_index.specs.Tags.{TagKeysValue, tag_key_cmp, or_nil, keys_at, with_key, is_one_of, is_listed, StillListed}

-- ---- the order of tables and tags

pub tag_key_total : IsTotalOrder tag_key_cmp
tag_key_total = then_total (on_total (λ (k : TagKey). k.table) nat_cmp_total) (on_total (λ (k : TagKey). k.tag) nat_cmp_total)

-- ---- one key more

pub one_of_push : (keys : List ℕ) (key q : ℕ) → is_one_of (keys ++ key ∷ []) q ≡ (is_one_of keys q || (key == q))
one_of_push [] key q = last (key == q)
  where
    last : (b : Bool) → (b || false) ≡ b
    last true = refl
    last false = refl
one_of_push (k ∷ keys) key q = ap (λ b. (k == q) || b) (one_of_push keys key q) ∙ regroup (k == q) (is_one_of keys q) (key == q)
  where
    regroup : (a b c : Bool) → (a || (b || c)) ≡ ((a || b) || c)
    regroup true b c = refl
    regroup false b c = refl

module _ (m : TagKeysValue) (at : TagKey) (key : ℕ) where
  at_after : (q : TagKey) → keys_at (with_key m at key) q ≡ cond (eq_by_cmp tag_key_cmp q at) (keys_at m at ++ key ∷ []) (keys_at m q)
  at_after q = ap or_nil (finmap.get-insert tag_key_total m at (keys_at m at ++ key ∷ []) q) ∙ by (eq_by_cmp tag_key_cmp q at)
    where
      by : (b : Bool) → or_nil (cond b (Some (keys_at m at ++ key ∷ [])) (finmap.get m q)) ≡ cond b (keys_at m at ++ key ∷ []) (keys_at m q)
      by true = refl
      by false = refl

  pub key_listed : is_one_of (keys_at (with_key m at key) at) key ≡ true
  key_listed =
      ap (λ keys. is_one_of keys key) (at_after at ∙ ap (λ b. cond b (keys_at m at ++ key ∷ []) (keys_at m at)) (ap is_eq (tied_itself tag_key_total at)))
      ∙ one_of_push (keys_at m at) key key ∙ ap (λ b. is_one_of (keys_at m at) key || b) (eq-eqb key key refl) ∙ or_true (is_one_of (keys_at m at) key)
    where
      or_true : (b : Bool) → (b || true) ≡ true
      or_true true = refl
      or_true false = refl

  pub still_listed : StillListed m (with_key m at key)
  still_listed table tag k was = ap (λ keys. is_one_of keys k) (at_after here) ∙ by (eq_by_cmp tag_key_cmp here at) refl
    where
      here : TagKey
      here = record { table = table; tag = tag }

      by : (b : Bool) → eq_by_cmp tag_key_cmp here at ≡ b → is_one_of (cond b (keys_at m at ++ key ∷ []) (keys_at m here)) k ≡ true
      by true e = one_of_push (keys_at m at) key k ∙ ap (λ b. b || (key == k)) (ap (λ x. is_one_of (keys_at m x) k) (sym (tag_key_same here at ((Equal-is (tag_key_cmp here at)).0 e))) ∙ was)
      by false e = was

pub same_listed : (m n : TagKeysValue) → n ≡ m → StillListed m n
same_listed m n e table tag key was = ap (λ x. is_listed x table tag key) e ∙ was

-- ---- each once

one_of_from : (xs : List ℕ) (k q : ℕ) → is_one_of (dedup_from (λ x y. x == y) k xs) q ≡ ((k == q) || is_one_of xs q)
one_of_from [] k q = refl
one_of_from (x ∷ xs) k q = by (x == k) refl (one_of_from xs k q) (one_of_from xs x q)
  where
    twice : (a b : Bool) → (a || b) ≡ (a || (a || b))
    twice true b = refl
    twice false b = refl

    by : (b : Bool) → (x == k) ≡ b → is_one_of (dedup_from (λ x y. x == y) k xs) q ≡ ((k == q) || is_one_of xs q) → is_one_of (dedup_from (λ x y. x == y) x xs) q ≡ ((x == q) || is_one_of xs q)
        → is_one_of (cond b (dedup_from (λ x y. x == y) k xs) (k ∷ dedup_from (λ x y. x == y) x xs)) q ≡ ((k == q) || ((x == q) || is_one_of xs q))
    by true e same other = same ∙ twice (k == q) (is_one_of xs q) ∙ ap (λ n. (k == q) || ((n == q) || is_one_of xs q)) (sym (eqb-true x k e))
    by false e same other = ap (λ b. (k == q) || b) other

pub one_of_dedup : (xs : List ℕ) (q : ℕ) → is_one_of (dedup (λ x y. x == y) xs) q ≡ is_one_of xs q
one_of_dedup [] q = refl
one_of_dedup (x ∷ xs) q = one_of_from xs x q

pub tied_numbers : (x y : ℕ) → (x == y) ≡ eq_by_cmp nat_cmp x y
tied_numbers x y = grind (arith, nat_tests)

pub none_rise : {A : Type 0} (cmp : A → A → Ordering) → IsStrictlySortedBy cmp []
unfolding IsStrictlySortedBy
none_rise cmp = tt

-- ---- a list that stays as it is

pub same_put : (s n : Slots TagKey (List ℕ)) (at : TagKey) (v d : List ℕ) → Some v ≡ finmap.get (map_of tag_key_cmp s) at → (IsSome (finmap.get (map_of tag_key_cmp s) at) → IsWritten tag_key_cmp s at d n) → d ≡ v → map_of tag_key_cmp n ≡ map_of tag_key_cmp s
same_put s n at v d has written same =
    finmap.same_map tag_key_total tag_key_same (map_of tag_key_cmp n) (map_of tag_key_cmp s) (λ q.
    ap (λ m. finmap.get m q) (written (subst IsSome has refl)).map ∙ finmap.get-insert tag_key_total (map_of tag_key_cmp s) at d q ∙ here q (eq_by_cmp tag_key_cmp q at) refl)
  where
    here : (q : TagKey) (b : Bool) → eq_by_cmp tag_key_cmp q at ≡ b → cond b (Some d) (finmap.get (map_of tag_key_cmp s) q) ≡ finmap.get (map_of tag_key_cmp s) q
    here q true e = ap Some same ∙ has ∙ ap (finmap.get (map_of tag_key_cmp s)) (sym (tag_key_same q at ((Equal-is (tag_key_cmp q at)).0 e)))
    here q false e = refl
