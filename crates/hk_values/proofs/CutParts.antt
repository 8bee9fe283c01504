-- What is cut is, one part after the other, what it was.
use Rattle.std.proofs.Common.{◌≡◌, refl, sym, ap, subst, ◌∙◌, ℕ, zero, suc, ◌+◌, ◌-◌, ◌<◌, ◌≤◌, ◌⊎◌, inl, inr, Bool, true, false, cond, ltb, List, [], ◌∷◌, ◌++◌, length, take, drop, flat_map, All, arith, length-drop}
use Rattle.std.proofs.lemmas.Bool.{ltb-false, lt-ltb, cases_lt}
use Rattle.std.proofs.lemmas.List.{length-append, take-append-drop, take_all}
use Rattle.std.proofs.lemmas.List.Concat.{flat_map-cons}
use Rattle.std.proofs.lemmas.List.Elements.{All-nil, All-cons}
use Rattle.hk_fragment.specs.Parts.{Known}
use Rattle.hk_fragment_bytes.specs.Fragments.{fact_text}
use Rattle.hk_values.specs.Cutting.{fact_bytes, facts_bytes, count_within, next_count, first_part, rest_after, first_parts, parts_of, facts_of_parts, IsPart, IsNextPart, AreParts}
use Rattle.hk_fragment_bytes.proofs.Lengths.{fact_text_len}

bytes_cons : (e : Known) (facts : List Known) → facts_bytes (e ∷ facts) ≡ fact_bytes e + facts_bytes facts
bytes_cons e facts = ap length (flat_map-cons fact_text e facts) ∙ length-append (fact_text e) (flat_map fact_text facts)

some_bytes : (e : Known) → 0 < fact_bytes e
some_bytes e = let l = fact_text_len e.0 e.1 in omega (arith, l)

-- the first part has a fact where there is one
pub first_part_some : (most : ℕ) (facts : List Known) → 0 < length facts → 0 < length (first_part most facts)
first_part_some most [] h = h
first_part_some most (e ∷ facts) h = omega arith

-- the front that is counted is within the room
within : (room : ℕ) (facts : List Known) → facts_bytes (take (count_within room facts) facts) ≤ room
within room [] = omega arith
within room (e ∷ facts) = by (ltb room (fact_bytes e)) refl (within (room - fact_bytes e) facts)
  where
    by : (b : Bool) → ltb room (fact_bytes e) ≡ b → facts_bytes (take (count_within (room - fact_bytes e) facts) facts) ≤ room - fact_bytes e
        → facts_bytes (take (cond b 0 (suc (count_within (room - fact_bytes e) facts))) (e ∷ facts)) ≤ room
    by true t h = omega arith
    by false t h =
        let le : fact_bytes e ≤ room = ltb-false room (fact_bytes e) t in
        let sum = bytes_cons e (take (count_within (room - fact_bytes e) facts) facts) in
        omega (arith, le, h, sum)

-- no fact is within no room
none_within : (facts : List Known) → count_within 0 facts ≡ 0
none_within [] = refl
none_within (e ∷ facts) = ap (λ b. cond b 0 (suc (count_within (0 - fact_bytes e) facts))) (lt-ltb 0 (fact_bytes e) (some_bytes e))

is_part : (most : ℕ) (e : Known) (facts : List Known) → IsPart most (first_part most (e ∷ facts))
is_part most e facts = record { some = omega arith; short = short (cases_lt most (fact_bytes e)) }
  where
    short : (most < fact_bytes e) ⊎ (fact_bytes e ≤ most) → (facts_bytes (first_part most (e ∷ facts)) ≤ most) ⊎ (length (first_part most (e ∷ facts)) ≡ 1)
    short (inl lt) =
        let no_room : most - fact_bytes e ≡ 0 = omega arith in
        inr (ap (λ room. length (take (suc (count_within room facts)) (e ∷ facts))) no_room ∙ ap (λ n. length (take (suc n) (e ∷ facts))) (none_within facts))
    short (inr le) =
        let h = within (most - fact_bytes e) facts in
        let sum = bytes_cons e (take (count_within (most - fact_bytes e) facts) facts) in
        inl (omega (arith, le, h, sum))

parts_whole : (n most : ℕ) (facts : List Known) → length facts ≤ n → facts_of_parts (first_parts n most facts) ≡ facts
parts_whole zero most [] h = refl
parts_whole zero most (e ∷ facts) h = absurd (omega (arith, h))
parts_whole (suc n) most [] h = refl
parts_whole (suc n) most (e ∷ facts) h =
    let fewer : length (rest_after most (e ∷ facts)) ≤ n = (let l = length-drop (next_count most (e ∷ facts)) (e ∷ facts) in omega (arith, l, h)) in
    ap (λ ys. first_part most (e ∷ facts) ++ ys) (parts_whole n most (rest_after most (e ∷ facts)) fewer)
    ∙ take-append-drop (next_count most (e ∷ facts)) (e ∷ facts)

parts_each : (n most : ℕ) (facts : List Known) → All (IsPart most) (first_parts n most facts)
parts_each zero most facts = All-nil (IsPart most)
parts_each (suc n) most [] = All-nil (IsPart most)
parts_each (suc n) most (e ∷ facts) = All-cons (IsPart most) (first_part most (e ∷ facts)) (first_parts n most (rest_after most (e ∷ facts))) (is_part most e facts) (parts_each n most (rest_after most (e ∷ facts)))

pub are_parts : (most : ℕ) (facts : List Known) → AreParts most facts (parts_of most facts)
are_parts most facts = record { whole = parts_whole (length facts) most facts (omega arith); each = parts_each (length facts) most facts }

sum_from_none : (n : ℕ) → n ≡ 0 + n
sum_from_none n = omega arith

-- what is taken after what was taken
pub take_both : (i n : ℕ) (xs : List Known) → take i xs ++ take n (drop i xs) ≡ take (i + n) xs
take_both zero n xs = ap (λ m. take m xs) (sum_from_none n)
take_both (suc i) n [] = nothing n ∙ sym (nothing (suc i + n))
  where
    nothing : (n : ℕ) → take {A = Known} n [] ≡ []
    nothing zero = refl
    nothing (suc n) = refl
take_both (suc i) n (x ∷ xs) = ap (λ ys. x ∷ ys) (take_both i n xs) ∙ ap (λ m. take m (x ∷ xs)) (more i n)
  where
    more : (i n : ℕ) → suc (i + n) ≡ suc i + n
    more i n = omega arith

drop_both : (i n : ℕ) (xs : List Known) → drop n (drop i xs) ≡ drop (i + n) xs
drop_both zero n xs = ap (λ m. drop m xs) (sum_from_none n)
drop_both (suc i) n [] = nothing n ∙ sym (nothing (suc i + n))
  where
    nothing : (n : ℕ) → drop {A = Known} n [] ≡ []
    nothing zero = refl
    nothing (suc n) = refl
drop_both (suc i) n (x ∷ xs) = drop_both i n xs ∙ ap (λ m. drop m (x ∷ xs)) (more i n)
  where
    more : (i n : ℕ) → suc (i + n) ≡ suc i + n
    more i n = omega arith

-- ---- a part that is given: it has n facts, and to facts were given before it

pub moved_part : (to n : ℕ) (xs : List Known) → take (to + n - to) (drop to xs) ≡ take n (drop to xs)
moved_part to n xs = ap (λ m. take m (drop to xs)) (many to n)
  where
    many : (to n : ℕ) → to + n - to ≡ n
    many to n = omega arith

pub moved_given : (to n : ℕ) (xs : List Known) → take (to + n) xs ≡ take to xs ++ take (to + n - to) (drop to xs)
moved_given to n xs = sym (take_both to n xs) ∙ ap (λ ys. take to xs ++ ys) (sym (moved_part to n xs))

pub moved_left : (to n : ℕ) (xs : List Known) → drop to xs ≡ take (to + n - to) (drop to xs) ++ drop (to + n) xs
moved_left to n xs = sym (take-append-drop n (drop to xs)) ∙ (λ i. sym (moved_part to n xs) i ++ drop_both to n xs i)

pub next_is_part : (most : ℕ) (facts : List Known) → 0 < length facts → IsPart most (first_part most facts)
next_is_part most [] h = absurd (omega (arith, h))
next_is_part most (e ∷ facts) h = is_part most e facts

-- there are no more parts than facts
enough : (n m most : ℕ) (facts : List Known) → length facts ≤ n → length facts ≤ m → first_parts n most facts ≡ first_parts m most facts
enough zero zero most facts h k = refl
enough zero (suc m) most [] h k = refl
enough zero (suc m) most (e ∷ facts) h k = absurd (omega (arith, h))
enough (suc n) zero most [] h k = refl
enough (suc n) zero most (e ∷ facts) h k = absurd (omega (arith, k))
enough (suc n) (suc m) most [] h k = refl
enough (suc n) (suc m) most (e ∷ facts) h k =
    let l = length-drop (next_count most (e ∷ facts)) (e ∷ facts) in
    ap (λ ps. first_part most (e ∷ facts) ∷ ps) (enough n m most (rest_after most (e ∷ facts)) (omega (arith, l, h)) (omega (arith, l, k)))

-- the parts of facts are the first one and those of what is left
pub next_parts : (most : ℕ) (facts : List Known) → 0 < length facts → IsNextPart most facts (first_part most facts) (rest_after most facts)
next_parts most [] h = absurd (omega (arith, h))
next_parts most (e ∷ facts) h =
    let l = length-drop (next_count most (e ∷ facts)) (e ∷ facts) in
    ap (λ ps. first_part most (e ∷ facts) ∷ ps) (enough (length facts) (length (rest_after most (e ∷ facts))) most (rest_after most (e ∷ facts)) (omega (arith, l)) (omega arith))

-- ---- the next part: it is counted in what is behind those that were given

pub counted : (n most to : ℕ) (xs ys : List Known) → n ≡ next_count most (take (length xs - to) (drop to xs)) → xs ≡ ys → n ≡ next_count most (drop to ys)
counted n most to xs ys e is =
    let l = length-drop to xs in
    e ∙ ap (next_count most) (take_all (length xs - to) (drop to xs) (omega (arith, l))) ∙ ap (λ zs. next_count most (drop to zs)) is

module _ (n most to : ℕ) (xs : List Known) (count : n ≡ next_count most (drop to xs)) where
  pub counted_part : take (to + n - to) (drop to xs) ≡ first_part most (drop to xs)
  counted_part = moved_part to n xs ∙ ap (λ (k : ℕ). take k (drop to xs)) count

  counted_rest : drop (to + n) xs ≡ rest_after most (drop to xs)
  counted_rest = sym (drop_both to n xs) ∙ ap (λ (k : ℕ). drop k (drop to xs)) count

  pub counted_bounds : 0 < length (drop to xs) → IsPart most (take (to + n - to) (drop to xs))
  counted_bounds some = subst (IsPart most) (sym counted_part) (next_is_part most (drop to xs) some)

  pub counted_next : 0 < length (drop to xs) → IsNextPart most (drop to xs) (take (to + n - to) (drop to xs)) (drop (to + n) xs)
  counted_next some = next_parts most (drop to xs) some ∙ sym (λ i. counted_part i ∷ parts_of most (counted_rest i))
