-- What stands under a number, counted from 1.
use Rattle.std.proofs.Common.{◌≡◌, refl, sym, ap, ◌∙◌, ℕ, zero, suc, ◌-◌, ◌<◌, ◌≤◌, ◌==◌, Bor, IfSome, MatchOption, length, get_or, set, map, replicate, ◌+◌, ◌++◌, add-one, false, cond, Option, Some, None, List, [], ◌∷◌, arith, true, is_some, ◌&&◌, true≢false}
use Rattle.std.proofs.lemmas.Bool.Decides.{nat_tests}
use Rattle.std.proofs.lemmas.Option.{slice_get_past, slice_get_read}
use Rattle.std.specs.List.{slice_get, HoldsAt, list_all, filter_map, cons_option}
use Rattle.std.specs.Option.{option_copied}
use Rattle.hk_model.specs.World.Worlds.{at_number, with_at_number, all_numbered, both, first_and}

not_first : (n : ℕ) → (suc (suc n) == 1) ≡ false
not_first n = grind (arith, nat_tests)

one_less : (n : ℕ) → suc n - 1 ≡ n
one_less n = omega arith

module _ {X : Type 0} where
  -- nothing stands under 0
  pub numbered_zero : (xs : List X) → None ≡ at_number xs 0
  numbered_zero [] = refl
  numbered_zero (x ∷ xs) = numbered_zero xs

  numbered_suc : (xs : List X) (n : ℕ) → slice_get xs n ≡ at_number xs (suc n)
  numbered_suc [] n = refl
  numbered_suc (x ∷ xs) zero = refl
  numbered_suc (x ∷ xs) (suc n) = numbered_suc xs n ∙ sym (λ i. cond (not_first n i) (Some x) (at_number xs (one_less (suc n) i)))

  -- what a slice gives at a place stands under the next number
  pub numbered_got : (xs : List X) (n : ℕ) (r : Option (Bor X)) → 0 < n → IfSome r (λ x. x.now ≡ get_or xs (n - 1) x.now) → MatchOption r (length xs ≤ n - 1) (λ x. (n - 1 < length xs) × HoldsAt (λ y. x.now ≡ y) xs (n - 1)) → option_copied r ≡ at_number xs n
  numbered_got xs n r above read got =
      by r read got ∙ numbered_suc xs (n - 1) ∙ (let e : suc (n - 1) ≡ n = omega arith in ap (at_number xs) e)
    where
      by : (r : Option (Bor X)) → IfSome r (λ x. x.now ≡ get_or xs (n - 1) x.now) → MatchOption r (length xs ≤ n - 1) (λ x. (n - 1 < length xs) × HoldsAt (λ y. x.now ≡ y) xs (n - 1)) → option_copied r ≡ slice_get xs (n - 1)
      by None m past = sym (slice_get_past xs (n - 1) past)
      by (Some x) m here = sym (slice_get_read xs (length xs) (n - 1) x.now refl here.0 m)

  -- nothing stands past the end
  pub numbered_past : (xs : List X) (n : ℕ) → length xs < n → at_number xs n ≡ None
  numbered_past xs n l = sym (numbered_suc xs (n - 1) ∙ (let e : suc (n - 1) ≡ n = omega arith in ap (at_number xs) e)) ∙ slice_get_past xs (n - 1) (omega arith)

  read_at : (xs : List X) (i : ℕ) (d : X) → i < length xs → slice_get xs i ≡ Some (get_or xs i d)
  read_at [] i d l = absurd (omega arith)
  read_at (x ∷ xs) zero d l = refl
  read_at (x ∷ xs) (suc i) d l = read_at xs i d (omega arith)

  -- what is read at a place stands under the next number
  pub numbered_at : (xs : List X) (i k : ℕ) (d : X) → i + 1 ≡ k → i < length xs → at_number xs k ≡ Some (get_or xs i d)
  numbered_at xs i k d e l = (let f : k ≡ suc i = omega arith in ap (at_number xs) f) ∙ sym (numbered_suc xs i) ∙ read_at xs i d l

  mapped_suc : {Y : Type 0} (f : X → Y) (xs : List X) (i : ℕ) (d : X) → i < length xs → at_number (map f xs) (suc i) ≡ Some (f (get_or xs i d))
  mapped_suc f [] i d l = absurd (omega arith)
  mapped_suc f (x ∷ xs) zero d l = refl
  mapped_suc f (x ∷ xs) (suc i) d l = (λ j. cond (not_first i j) (Some (f x)) (at_number (map f xs) (one_less (suc i) j))) ∙ mapped_suc f xs i d (omega arith)

  -- what a function makes of what is read at a place stands under the next number of what it makes of all
  pub mapped_at : {Y : Type 0} (f : X → Y) (xs : List X) (i k : ℕ) (d : X) → i + 1 ≡ k → i < length xs → at_number (map f xs) k ≡ Some (f (get_or xs i d))
  mapped_at f xs i k d e l = (let g : k ≡ suc i = omega arith in ap (at_number (map f xs)) g) ∙ mapped_suc f xs i d l

  renumbered_suc : (xs : List X) (n : ℕ) (y : X) → n < length xs → set xs n y ≡ with_at_number xs (suc n) y
  renumbered_suc [] n y l = absurd (omega arith)
  renumbered_suc (x ∷ xs) zero y l = refl
  renumbered_suc (x ∷ xs) (suc n) y l = ap (λ zs. x ∷ zs) (renumbered_suc xs n y (omega arith)) ∙ sym (λ i. cond (not_first n i) (y ∷ xs) (x ∷ with_at_number xs (one_less (suc n) i) y))

  -- what is put in at a place stands under the next number
  pub renumbered_at : (xs : List X) (i k : ℕ) (y : X) → i + 1 ≡ k → i < length xs → set xs i y ≡ with_at_number xs k y
  renumbered_at xs i k y e l = renumbered_suc xs i y l ∙ (let f : suc i ≡ k = omega arith in ap (λ n. with_at_number xs n y) f)

  -- putting in what is there already changes nothing
  pub set_same : (xs : List X) (i : ℕ) (d : X) → i < length xs → set xs i (get_or xs i d) ≡ xs
  set_same [] i d l = absurd (omega arith)
  set_same (y ∷ xs) zero d l = refl
  set_same (y ∷ xs) (suc i) d l = ap (λ zs. y ∷ zs) (set_same xs i d (omega arith))

replicate_next : {X : Type 0} (n : ℕ) (x : X) → replicate (suc n) x ≡ replicate n x ++ x ∷ []
replicate_next zero x = refl
replicate_next (suc n) x = ap (λ zs. x ∷ zs) (replicate_next n x)

-- one more of the same
pub replicate_more : {X : Type 0} (n : ℕ) (x : X) → replicate (n + 1) x ≡ replicate n x ++ x ∷ []
replicate_more n x = ap (λ k. replicate k x) (add-one n) ∙ replicate_next n x

-- the ones under all these numbers, where none is missing
module _ {X : Type 0} (xs : List X) where
  found_first : (n : ℕ) (ns : List ℕ) → (list_all (λ m. is_some (at_number xs m)) ns ≡ true → all_numbered xs ns ≡ Some (filter_map (at_number xs) ns)) → (x : Option X) → at_number xs n ≡ x → list_all (λ m. is_some (at_number xs m)) (n ∷ ns) ≡ true → all_numbered xs (n ∷ ns) ≡ Some (filter_map (at_number xs) (n ∷ ns))
  found_first n ns more None e h = absurd (true≢false (sym h ∙ ap (λ y. is_some y && list_all (λ m. is_some (at_number xs m)) ns) e))
  found_first n ns more (Some x) e h =
      let rest = more (sym (ap (λ y. is_some y && list_all (λ m. is_some (at_number xs m)) ns) e) ∙ h) in
      (λ i. first_and (both (e i) (rest i))) ∙ sym (ap (λ y. Some (cons_option y (filter_map (at_number xs) ns))) e)

  pub all_found : (ns : List ℕ) → list_all (λ n. is_some (at_number xs n)) ns ≡ true → all_numbered xs ns ≡ Some (filter_map (at_number xs) ns)
  all_found [] h = refl
  all_found (n ∷ ns) h = found_first n ns (all_found ns) (at_number xs n) refl h

  missing_first : (n : ℕ) (ns : List ℕ) → (list_all (λ m. is_some (at_number xs m)) ns ≡ false → all_numbered xs ns ≡ None) → (x : Option X) → at_number xs n ≡ x → list_all (λ m. is_some (at_number xs m)) (n ∷ ns) ≡ false → all_numbered xs (n ∷ ns) ≡ None
  missing_first n ns more None e h = ap (λ y. first_and (both y (all_numbered xs ns))) e
  missing_first n ns more (Some x) e h =
      let rest = more (sym (ap (λ y. is_some y && list_all (λ m. is_some (at_number xs m)) ns) e) ∙ h) in
      λ i. first_and (both (e i) (rest i))

  pub one_missing : (ns : List ℕ) → list_all (λ n. is_some (at_number xs n)) ns ≡ false → all_numbered xs ns ≡ None
  one_missing [] h = absurd (true≢false h)
  one_missing (n ∷ ns) h = missing_first n ns (one_missing ns) (at_number xs n) refl h

pub both_none : {Y Z : Type 0} (y : Option Y) → both {X = Y} {Y = Z} y None ≡ None
both_none None = refl
both_none (Some y) = refl

-- two lists, one after the other
module _ {X : Type 0} (high : List X) where
  pub get_low : (low : List X) (i : ℕ) (d : X) → i < length low → get_or (low ++ high) i d ≡ get_or low i d
  get_low [] i d l = absurd (omega arith)
  get_low (x ∷ low) zero d l = refl
  get_low (x ∷ low) (suc i) d l = get_low low i d (omega arith)

  pub set_low : (low : List X) (i : ℕ) (y : X) → i < length low → set (low ++ high) i y ≡ set low i y ++ high
  set_low [] i y l = absurd (omega arith)
  set_low (x ∷ low) zero y l = refl
  set_low (x ∷ low) (suc i) y l = ap (λ zs. x ∷ zs) (set_low low i y (omega arith))

  pub get_high : (low : List X) (d : X) → get_or (low ++ high) (length low) d ≡ get_or high 0 d
  get_high [] d = refl
  get_high (x ∷ low) d = get_high low d

  pub set_high : (low : List X) (y : X) → set (low ++ high) (length low) y ≡ low ++ set high 0 y
  set_high [] y = refl
  set_high (x ∷ low) y = ap (λ zs. x ∷ zs) (set_high low y)
