-- What is inserted for another view, and taken back again.
use Rattle.std.proofs.Common.{◌≡◌, refl, sym, ap, ◌∙◌, ℕ, zero, suc, ◌<◌, ◌+◌, Bool, true, false, cond, not, Option, Some, None, is_some, List, [], ◌∷◌, map, filter, All, length, take, get_or, ◌||◌, ◌&&◌, ltb, leb, nat_cmp, arith, true≢false, Result, Ok, Err, OnOk, OnErr, is_err}
use Rattle.std.proofs.lemmas.Bool.Decides.{nat_tests}
use Rattle.std.proofs.lemmas.Bool.{and_parts}
use Rattle.std.proofs.lemmas.List.{take_more}
use Rattle.std.proofs.lemmas.List.Folds.{list_any-append}
use Rattle.std.specs.Map.{lookup}
use Rattle.std.proofs.lemmas.List.Elements.{All-head, All-tail}
use Rattle.std.specs.Ordering.{eq_by_cmp, is_lt}
use Rattle.std.specs.Cmp.{nat_cmp_total, eq_by_cmp_equiv}
use Rattle.std.specs.BTreeMap.{BTreeMap, is_at}
use Rattle.std.specs.BTreeMap as tree
use Rattle.hk_model.proofs.Replica.Streams.{tied_counts}
use Rattle.hk_marks.specs.Parts.{has_number, lacking_counts, LacksNone}

-- ---- one more number of a list

among-take_more : (xs : List ℕ) (i q : ℕ) → i < length xs → has_number (take (i + 1) xs) q ≡ (has_number (take i xs) q || eq_by_cmp nat_cmp q (get_or xs i 0))
among-take_more xs i q within =
    ap (λ l. has_number l q) (take_more xs i 0 within)
    ∙ list_any-append (eq_by_cmp nat_cmp q) (take i xs) (get_or xs i 0 ∷ [])
    ∙ ap (λ b. has_number (take i xs) q || b) (or_false (eq_by_cmp nat_cmp q (get_or xs i 0)))
  where
    or_false : (b : Bool) → (b || false) ≡ b
    or_false true = refl
    or_false false = refl

-- what is there at a number, after one more of the list got it
pub more_of : {X : Type 0} (xs : List ℕ) (i q : ℕ) (there after now before : X) → i < length xs
    → after ≡ cond (eq_by_cmp nat_cmp (get_or xs i 0) q) there now → now ≡ cond (has_number (take i xs) q) there before → after ≡ cond (has_number (take (i + 1) xs) q) there before
more_of xs i q there after now before within step so_far =
    step
    ∙ (λ k. cond ((eq_by_cmp_equiv nat_cmp_total).symm (get_or xs i 0) q k) there (so_far k))
    ∙ either (eq_by_cmp nat_cmp q (get_or xs i 0)) (has_number (take i xs) q)
    ∙ ap (λ b. cond b there before) (sym (among-take_more xs i q within))
  where
    either : (a b : Bool) → cond a there (cond b there before) ≡ cond (b || a) there before
    either true true = refl
    either true false = refl
    either false true = refl
    either false false = refl

among-take : (xs : List ℕ) (i q : ℕ) → has_number xs q ≡ false → has_number (take i xs) q ≡ false
among-take [] zero q none = refl
among-take [] (suc i) q none = refl
among-take (x ∷ xs) zero q none = refl
among-take (x ∷ xs) (suc i) q none = by (eq_by_cmp nat_cmp q x) none (among-take xs i q)
  where
    by : (b : Bool) → (b || has_number xs q) ≡ false → (has_number xs q ≡ false → has_number (take i xs) q ≡ false) → (b || has_number (take i xs) q) ≡ false
    by true e rest = absurd (true≢false e)
    by false e rest = rest e

-- all of a list are taken back after some of them came, where none was there
pub taken_back : {X : Type 0} (xs : List ℕ) (i q : ℕ) (gone there after now before : X) → after ≡ cond (has_number xs q) gone now → now ≡ cond (has_number (take i xs) q) there before → (has_number xs q ≡ true → before ≡ gone) → after ≡ before
taken_back xs i q gone there after now before back so_far apart =
    back ∙ elim (has_number xs q) as (λ b. has_number xs q ≡ b → cond b gone now ≡ before) [
      | true ↦ λ e. sym (apart e)
      | false ↦ λ e. so_far ∙ ap (λ b. cond b there before) (among-take xs i q e)
    ] refl

-- a fact that holds anyway holds on an error
pub on_error : {A E P : Type 0} (r : Result A E) → P → OnErr r P
on_error (Ok a) p = tt
on_error (Err e) p = p

-- what holds where nothing was refused
pub of_ok : {A E P : Type 0} (r : Result A E) → false ≡ is_err r → OnOk r P → P
of_ok (Ok a) f p = p
of_ok (Err e) f p = absurd (true≢false (sym f))

-- an error's fact
pub of_error : {A E P : Type 0} (r : Result A E) → true ≡ is_err r → OnErr r P → P
of_error (Ok a) e p = absurd (true≢false e)
of_error (Err e) t p = p

-- ---- what is missing

among-filter : (p : ℕ → Bool) (xs : List ℕ) (q : ℕ) → has_number (filter p xs) q ≡ (has_number xs q && p q)
among-filter p [] q = refl
among-filter p (x ∷ xs) q =
    elim (eq_by_cmp nat_cmp q x) as (λ b. eq_by_cmp nat_cmp q x ≡ b → has_number (cond (p x) (x ∷ filter p xs) (filter p xs)) q ≡ ((b || has_number xs q) && p q)) [
      | true ↦ λ t. here q x p xs t (p x) (ap p (sym (tied_counts q x t))) (among-filter p xs q)
      | false ↦ λ t. elsewhere q x p xs t (p x) ∙ among-filter p xs q
    ] refl
  where
    here : (q x : ℕ) (p : ℕ → Bool) (xs : List ℕ) → eq_by_cmp nat_cmp q x ≡ true → (b : Bool) → b ≡ p q → has_number (filter p xs) q ≡ (has_number xs q && p q) → has_number (cond b (x ∷ filter p xs) (filter p xs)) q ≡ p q
    here q x p xs t true e rest = ap (λ k. k || has_number (filter p xs) q) t ∙ e
    here q x p xs t false e rest = rest ∙ ap (λ k. has_number xs q && k) (sym e) ∙ and_false (has_number xs q) ∙ e
      where
        and_false : (k : Bool) → (k && false) ≡ false
        and_false true = refl
        and_false false = refl

    elsewhere : (q x : ℕ) (p : ℕ → Bool) (xs : List ℕ) → eq_by_cmp nat_cmp q x ≡ false → (b : Bool) → has_number (cond b (x ∷ filter p xs) (filter p xs)) q ≡ has_number (filter p xs) q
    elsewhere q x p xs t true = ap (λ k. k || has_number (filter p xs) q) t
    elsewhere q x p xs t false = refl

among-keys : (es : List (ℕ × ℕ)) (q : ℕ) → has_number (map (λ e. e.0) es) q ≡ is_some (lookup (is_at (nat_cmp q)) es)
among-keys [] q = refl
among-keys (e ∷ es) q = by (eq_by_cmp nat_cmp q e.0) (among-keys es q)
  where
    by : (b : Bool) → has_number (map (λ e. e.0) es) q ≡ is_some (lookup (is_at (nat_cmp q)) es) → (b || has_number (map (λ e. e.0) es) q) ≡ is_some (cond b (Some e.1) (lookup (is_at (nat_cmp q)) es))
    by true rest = refl
    by false rest = rest

-- the counts that an other view's waiting marks lack here
pub missing_count : (p : ℕ) (waiting others : BTreeMap ℕ ℕ) (cs : List ℕ) → cs ≡ filter (λ n. ltb p n && not (is_some (tree.get nat_cmp waiting n))) (tree.keys others)
    → (q : ℕ) → has_number cs q ≡ (is_some (tree.get nat_cmp others q) && (ltb p q && not (is_some (tree.get nat_cmp waiting q))))
missing_count p waiting others cs is q =
    ap (λ l. has_number l q) is ∙ among-filter (λ n. ltb p n && not (is_some (tree.get nat_cmp waiting n))) (tree.keys others) q
    ∙ ap (λ b. b && (ltb p q && not (is_some (tree.get nat_cmp waiting q)))) (among-keys others.entries q)

nothing : (x : Option ℕ) → not (is_some x) ≡ true → x ≡ None
nothing None e = refl
nothing (Some a) e = absurd (true≢false (sym e))

ltb_below : (a b : ℕ) → ltb a b ≡ true → a < b
ltb_below a b e = grind (arith, nat_tests)

-- what is lacking has no mark here, and one there, above the prefix
pub is_lacking : (p : ℕ) (waiting marks : BTreeMap ℕ ℕ) (cs : List ℕ) → cs ≡ filter (λ n. ltb p n && not (is_some (tree.get nat_cmp waiting n))) (tree.keys marks)
    → (q : ℕ) → has_number cs q ≡ true → (tree.get nat_cmp waiting q ≡ None) × (is_some (tree.get nat_cmp marks q) ≡ true) × (p < q)
is_lacking p waiting marks cs is q m =
    let parts = and_parts (is_some (tree.get nat_cmp marks q)) (ltb p q && not (is_some (tree.get nat_cmp waiting q))) (sym (missing_count p waiting marks cs is q) ∙ m) in
    let rest = and_parts (ltb p q) (not (is_some (tree.get nat_cmp waiting q))) parts.1 in
    (nothing (tree.get nat_cmp waiting q) rest.1, parts.0, ltb_below p q rest.0)

-- with a mark for each that is lacking one waits for each of the other's counts
pub has_all : (p : ℕ) (waiting marks room : BTreeMap ℕ ℕ) (cs : List ℕ) → cs ≡ filter (λ n. ltb p n && not (is_some (tree.get nat_cmp waiting n))) (tree.keys marks)
    → ((q : ℕ) → tree.get nat_cmp room q ≡ cond (has_number cs q) (Some 0) (tree.get nat_cmp waiting q))
    → (q : ℕ) → is_some (tree.get nat_cmp marks q) ≡ true → p < q → is_some (tree.get nat_cmp room q) ≡ true
has_all p waiting marks room cs is wide q there above =
    ap is_some (wide q ∙ ap (λ b. cond b (Some 0) (tree.get nat_cmp waiting q)) (missing_count p waiting marks cs is q ∙ (λ i. there i && (beyond i && not (is_some (tree.get nat_cmp waiting q)))))) ∙ either (tree.get nat_cmp waiting q)
  where
    beyond : ltb p q ≡ true
    beyond = grind (arith, nat_tests)

    either : (x : Option ℕ) → is_some (cond (not (is_some x)) (Some 0) x) ≡ true
    either None = refl
    either (Some a) = refl

-- all counts of a list go that came before, where none of them waited
pub counts_back : (cs : List ℕ) (q : ℕ) (after now before : Option ℕ) → after ≡ cond (has_number cs q) None now → now ≡ cond (has_number cs q) (Some 0) before → (has_number cs q ≡ true → before ≡ None) → after ≡ before
counts_back cs q after now before back came apart = by (has_number cs q) refl back came
  where
    by : (b : Bool) → has_number cs q ≡ b → after ≡ cond b None now → now ≡ cond b (Some 0) before → after ≡ before
    by true e back came = back ∙ sym (apart e)
    by false e back came = back ∙ came

-- ---- counts that are all covered

above_last : (prefix last q : ℕ) → is_lt (nat_cmp last q) ≡ false → leb last prefix ≡ true → ltb prefix q ≡ false
above_last prefix last q up below = grind (arith, nat_tests)

-- where the greatest count is covered none is lacking
pub none_beyond : (prefix last : ℕ) (counts : List ℕ) → leb last prefix ≡ true → All (λ q. is_lt (nat_cmp last q) ≡ false) counts → LacksNone prefix counts
none_beyond prefix last [] below all waiting = refl
none_beyond prefix last (q ∷ counts) below all waiting =
    ap (λ b. cond (b && not (is_some (tree.get nat_cmp waiting q))) (q ∷ lacking_counts prefix waiting counts) (lacking_counts prefix waiting counts))
    (above_last prefix last q (All-head (λ q. is_lt (nat_cmp last q) ≡ false) q counts all) below)
    ∙ none_beyond prefix last counts below (All-tail (λ q. is_lt (nat_cmp last q) ≡ false) q counts all) waiting
