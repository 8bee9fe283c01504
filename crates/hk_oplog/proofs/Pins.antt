-- The active pins by their numbers: looking for one, adding the next, and taking one out.
use Rattle.std.proofs.Common.{◌≡◌, ℕ, ◌<◌, ◌≤◌, Bool, true, false, not, ◌||◌, ◌==◌, cond, List, [], ◌∷◌, ◌++◌, map, filter, Option, Some, None, refl, sym, ap, ◌∙◌, arith, nat_cmp, Less, Greater}
use Rattle.std.specs.Prelude.{All}
use Rattle.std.specs.List.{list_any, AllByRecursion}
use Rattle.std.specs.List.Sorted.{IsStrictlySortedBy}
use Rattle.std.specs.Ordering.{match_ordering}
use Rattle.std.specs.BTreeMap.{is_at, insert_entry}
use Rattle.std.specs.Map.{keys_of, lookup, remove_entry}
use Rattle.std.proofs.lemmas.Bool.Decides.{nat_tests}
use Rattle.std.proofs.lemmas.List.Elements.{All-nil, All-cons, All-head, All-tail}
use Rattle.std.proofs.lemmas.Map.Keys.{sorted_head, sorted_tail}
use Rattle.hk_oplog.specs.declared.op.Hold.{Hold}
use Rattle.hk_oplog.specs.Pins.{pin_of}
use Rattle.hk_oplog.specs.Replay.{is_hold}

-- the next pin comes behind the others, since its number is above theirs
pub pushed : (count n at : ℕ) (es : List (ℕ × ℕ)) → All (λ e. e.0 ≤ count) es → count < n → insert_entry nat_cmp es n at ≡ es ++ (n, at) ∷ []
pushed count n at [] all above = refl
pushed count n at (e ∷ es) all above =
    let low : e.0 ≤ count = All-head (λ (e : ℕ × ℕ). e.0 ≤ count) e es all in
    let above_it : nat_cmp n e.0 ≡ Greater = grind (arith, nat_tests) in
    ap (λ o. match_ordering o ((n, at) ∷ e ∷ es) ((e.0, at) ∷ es) (e ∷ insert_entry nat_cmp es n at)) above_it
    ∙ ap (λ l. e ∷ l) (pushed count n at es (All-tail (λ (e : ℕ × ℕ). e.0 ≤ count) e es all) above)

pub all_up : (count n : ℕ) (es : List (ℕ × ℕ)) → count ≤ n → All (λ e. e.0 ≤ count) es → All (λ e. e.0 ≤ n) es
all_up count n [] up all = All-nil (λ (e : ℕ × ℕ). e.0 ≤ n)
all_up count n (e ∷ es) up all =
    let low : e.0 ≤ count = All-head (λ (e : ℕ × ℕ). e.0 ≤ count) e es all in
    All-cons (λ (e : ℕ × ℕ). e.0 ≤ n) e es (omega (arith, low, up)) (all_up count n es up (All-tail (λ (e : ℕ × ℕ). e.0 ≤ count) e es all))

pub all_left : (count : ℕ) (test : ℕ → Bool) (es : List (ℕ × ℕ)) → All (λ e. e.0 ≤ count) es → All (λ e. e.0 ≤ count) (remove_entry test es)
all_left count test [] all = all
all_left count test (e ∷ es) all =
    let rest = All-tail (λ (e : ℕ × ℕ). e.0 ≤ count) e es all in
    go (test e.0) rest (all_left count test es rest)
  where
    go : (b : Bool) → All (λ e. e.0 ≤ count) es → All (λ e. e.0 ≤ count) (remove_entry test es) → All (λ e. e.0 ≤ count) (cond b es (e ∷ remove_entry test es))
    go true rest left = rest
    go false rest left = All-cons (λ (e : ℕ × ℕ). e.0 ≤ count) e (remove_entry test es) (All-head (λ (e : ℕ × ℕ). e.0 ≤ count) e es all) left

-- none of pins with higher numbers is this one
none_later : (reader at low : ℕ) (es : List (ℕ × ℕ)) → reader ≡ low → AllByRecursion (λ y. nat_cmp low y ≡ Less) (keys_of es) → list_any (is_hold reader at) (map pin_of es) ≡ false
none_later reader at low [] same later = refl
none_later reader at low (e ∷ es) same later =
    let is : nat_cmp low e.0 ≡ Less = later.0 in
    let other : is_hold reader at (pin_of e) ≡ false = grind (arith, nat_tests) in
    ap (λ b. b || list_any (is_hold reader at) (map pin_of es)) other ∙ none_later reader at low es same later.1

-- whether a pin of a time was found that has this one
abbrev pub is_time : ℕ → Option ℕ → Bool
is_time at None = false
is_time at (Some t) = t == at

-- a pin is among them where the one of its number has its time
pub among : (reader at : ℕ) (es : List (ℕ × ℕ)) → IsStrictlySortedBy nat_cmp (keys_of es) → list_any (is_hold reader at) (map pin_of es) ≡ is_time at (lookup (is_at (nat_cmp reader)) es)
among reader at [] sorted = refl
among reader at (e ∷ es) sorted = go (is_at (nat_cmp reader) e.0) refl (among reader at es (sorted_tail nat_cmp e.0 (keys_of es) sorted))
  where
    go : (b : Bool) → is_at (nat_cmp reader) e.0 ≡ b → list_any (is_hold reader at) (map pin_of es) ≡ is_time at (lookup (is_at (nat_cmp reader)) es)
        → list_any (is_hold reader at) (map pin_of (e ∷ es)) ≡ is_time at (cond b (Some e.1) (lookup (is_at (nat_cmp reader)) es))
    go true is ih =
        let same : reader ≡ e.0 = grind (arith, nat_tests) in
        let here : is_hold reader at (pin_of e) ≡ (e.1 == at) = grind (arith, nat_tests) in
        ap (λ b. is_hold reader at (pin_of e) || b) (none_later reader at e.0 es same (sorted_head nat_cmp e.0 (keys_of es) sorted)) ∙ or_none (is_hold reader at (pin_of e)) ∙ here
      where
        or_none : (b : Bool) → b || false ≡ b
        or_none true = refl
        or_none false = refl
    go false is ih =
        let other : is_hold reader at (pin_of e) ≡ false = grind (arith, nat_tests) in
        ap (λ b. b || list_any (is_hold reader at) (map pin_of es)) other ∙ ih

filter_none : {X : Type 0} (p : X → Bool) (xs : List X) → list_any p xs ≡ false → filter (λ x. not (p x)) xs ≡ xs
filter_none p [] none = refl
filter_none p (x ∷ xs) none = go (p x) refl none (filter_none p xs)
  where
    go : (b : Bool) → p x ≡ b → b || list_any p xs ≡ false → (list_any p xs ≡ false → filter (λ x. not (p x)) xs ≡ xs) → cond (not (p x)) (x ∷ filter (λ x. not (p x)) xs) (filter (λ x. not (p x)) xs) ≡ x ∷ xs
    go true is none ih = absurd (cc)
    go false is none ih = ap (λ b. cond (not b) (x ∷ filter (λ x. not (p x)) xs) (filter (λ x. not (p x)) xs)) is ∙ ap (λ l. x ∷ l) (ih none)

-- taking out the pin of a number takes out just the pin of this number and time, where it is among them
pub removed : (reader at : ℕ) (es : List (ℕ × ℕ)) → IsStrictlySortedBy nat_cmp (keys_of es) → list_any (is_hold reader at) (map pin_of es) ≡ true
    → map pin_of (remove_entry (is_at (nat_cmp reader)) es) ≡ filter (λ h. not (is_hold reader at h)) (map pin_of es)
removed reader at [] sorted there = refl
removed reader at (e ∷ es) sorted there = go (is_at (nat_cmp reader) e.0) refl (removed reader at es (sorted_tail nat_cmp e.0 (keys_of es) sorted))
  where
    rest : List Hold
    rest = map pin_of es

    keeps : (b : Bool) → is_hold reader at (pin_of e) ≡ b → filter (λ h. not (is_hold reader at h)) (pin_of e ∷ rest) ≡ cond (not b) (pin_of e ∷ filter (λ h. not (is_hold reader at h)) rest) (filter (λ h. not (is_hold reader at h)) rest)
    keeps b is = ap (λ b. cond (not b) (pin_of e ∷ filter (λ h. not (is_hold reader at h)) rest) (filter (λ h. not (is_hold reader at h)) rest)) is

    only : (a b : Bool) → b ≡ false → a || b ≡ true → a ≡ true
    only true b none there = refl
    only false b none there = absurd (cc)

    other_left : (a b : Bool) → a ≡ false → a || b ≡ true → b ≡ true
    other_left true b not_it there = absurd (cc)
    other_left false b not_it there = there

    go : (b : Bool) → is_at (nat_cmp reader) e.0 ≡ b
        → (list_any (is_hold reader at) rest ≡ true → map pin_of (remove_entry (is_at (nat_cmp reader)) es) ≡ filter (λ h. not (is_hold reader at h)) rest)
        → map pin_of (cond b es (e ∷ remove_entry (is_at (nat_cmp reader)) es)) ≡ filter (λ h. not (is_hold reader at h)) (map pin_of (e ∷ es))
    go true is ih =
        let same : reader ≡ e.0 = grind (arith, nat_tests) in
        let none = none_later reader at e.0 es same (sorted_head nat_cmp e.0 (keys_of es) sorted) in
        let it : is_hold reader at (pin_of e) ≡ true = only (is_hold reader at (pin_of e)) (list_any (is_hold reader at) rest) none there in
        sym (keeps true it ∙ filter_none (is_hold reader at) rest none)
    go false is ih =
        let other : is_hold reader at (pin_of e) ≡ false = grind (arith, nat_tests) in
        let left = other_left (is_hold reader at (pin_of e)) (list_any (is_hold reader at) rest) other there in
        ap (λ l. pin_of e ∷ l) (ih left) ∙ sym (keeps false other)
