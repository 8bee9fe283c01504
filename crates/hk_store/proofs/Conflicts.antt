-- A conflict is found by a walk over the smaller map's keys.
use Rattle.std.proofs.Common.{◌≡◌, refl, sym, ap, ◌∙◌, Bool, true, false, Option, Some, None, List, [], ◌∷◌, ◌||◌, true≢false, Ordering, Less, Equal, Greater}
use Rattle.std.specs.Option.{is_some}
use Rattle.std.specs.List.{list_any}
use Rattle.std.specs.Ordering.{eq_by_cmp, is_eq}
use Rattle.std.specs.Cmp.{IsTotalOrder, tied_itself}
use Rattle.std.specs.FinMap as finmap
use Rattle.std.proofs.lemmas.Bool.{or_right}
use Rattle.hk_model.specs.Replica.Maps.{values_conflict, maps_conflict}

bools : (a b : Bool) → (a ≡ true → b ≡ true) → (b ≡ true → a ≡ true) → a ≡ b
bools true b f g = sym (f refl)
bools false true f g = g refl
bools false false f g = refl

or_split : (a b : Bool) (P : Type 0) → (a || b) ≡ true → (a ≡ true → P) → (b ≡ true → P) → P
or_split true b P e f g = f refl
or_split false b P e f g = g e

module _ {K : Type 0} (tied : K → K → Bool) (itself : (a : K) → tied a a ≡ true) (same : (a b : K) → tied a b ≡ true → a ≡ b) (p : K → Bool) where
  -- a test passes in a list that has the key
  pub any_at : (ks : List K) (k : K) → p k ≡ true → list_any (tied k) ks ≡ true → list_any p ks ≡ true
  any_at [] k pk h = absurd (true≢false (sym h))
  any_at (x ∷ ks) k pk h = or_split (tied k x) (list_any (tied k) ks) _ h
      (λ t. ap (λ b. b || list_any p ks) (ap p (sym (same k x t)) ∙ pk))
      (λ r. or_right (p x) (list_any p ks) (any_at ks k pk r))

  -- where each key that passes in the one list is in the other
  any_in : (ks ls : List K) → ((k : K) → p k ≡ true → list_any (tied k) ls ≡ true) → list_any p ks ≡ true → list_any p ls ≡ true
  any_in [] ls each h = absurd (true≢false (sym h))
  any_in (x ∷ ks) ls each h = or_split (p x) (list_any p ks) _ h (λ px. any_at ls x px (each x px)) (λ r. any_in ks ls each r)

  pub same_any : (ks ls : List K) → ((k : K) → p k ≡ true → list_any (tied k) ks ≡ true) → ((k : K) → p k ≡ true → list_any (tied k) ls ≡ true) → list_any p ks ≡ list_any p ls
  same_any ks ls f g = bools _ _ (any_in ks ls g) (any_in ls ks f)

pub differ_left : {X : Type 0} (alike : X → X → Bool) (x y : Option X) → values_conflict alike x y ≡ true → is_some x ≡ true
differ_left alike None y e = e
differ_left alike (Some x) y e = refl

pub differ_right : {X : Type 0} (alike : X → X → Bool) (x y : Option X) → values_conflict alike x y ≡ true → is_some y ≡ true
differ_right alike None y e = absurd (true≢false (sym e))
differ_right alike (Some x) None e = e
differ_right alike (Some x) (Some y) e = refl

pub equal : (r : Ordering) → is_eq r ≡ true → r ≡ Equal
equal Less e = absurd (true≢false (sym e))
equal Equal e = refl
equal Greater e = absurd (true≢false (sym e))

-- whether two maps conflict with, by a walk over any list of the second map's keys
pub maps_conflict_over : {K X : Type 0} {R : K → K → Ordering} → IsTotalOrder R → finmap.IsAntisymmetric R → (alike : X → X → Bool) (m n : finmap.FinMap R X) (ls : List K) → ((k : K) → finmap.contains_key n k ≡ list_any (eq_by_cmp R k) ls)
    → maps_conflict alike m n ≡ list_any (λ k. values_conflict alike (finmap.get m k) (finmap.get n k)) ls
maps_conflict_over {R = R} o same alike m n ls keys =
    same_any (eq_by_cmp R) (λ a. ap is_eq (tied_itself o a)) (λ a b e. same a b (equal _ e)) (λ k. values_conflict alike (finmap.get m k) (finmap.get n k)) (finmap.keys m) ls
    (λ k e. sym (finmap.contains_key-keys m k) ∙ differ_left alike (finmap.get m k) (finmap.get n k) e)
    (λ k e. sym (keys k) ∙ differ_right alike (finmap.get m k) (finmap.get n k) e)

-- the same by a walk over a list that has all of the second map's keys
pub maps_conflict_wide : {K X : Type 0} {R : K → K → Ordering} → IsTotalOrder R → finmap.IsAntisymmetric R → (alike : X → X → Bool) (m n : finmap.FinMap R X) (ls : List K) → ((k : K) → is_some (finmap.get n k) ≡ true → list_any (eq_by_cmp R k) ls ≡ true)
    → maps_conflict alike m n ≡ list_any (λ k. values_conflict alike (finmap.get m k) (finmap.get n k)) ls
maps_conflict_wide {R = R} o same alike m n ls keys =
    same_any (eq_by_cmp R) (λ a. ap is_eq (tied_itself o a)) (λ a b e. same a b (equal _ e)) (λ k. values_conflict alike (finmap.get m k) (finmap.get n k)) (finmap.keys m) ls
    (λ k e. sym (finmap.contains_key-keys m k) ∙ differ_left alike (finmap.get m k) (finmap.get n k) e)
    (λ k e. keys k (differ_right alike (finmap.get m k) (finmap.get n k) e))
