-- The prefix of a stream is the greatest number up to which all are taken; and how many extra numbers a stream has.
use Rattle.std.proofs.Common.{◌≡◌, refl, sym, ap, ◌∙◌, ℕ, zero, suc, ◌≤◌, Bool, true, false, cond, ◌+◌, Less, ◌||◌, ◌&&◌, max, nat_cmp, true≢false, List, [], ◌∷◌, length, arith}
use Rattle.std.specs.Cmp.{nat_cmp_total}
use Rattle.std.specs.List.{AllByRecursion, list_any}
use Rattle.std.specs.List.Sorted.{IsStrictlySortedBy}
use Rattle.std.specs.Ordering.{eq_by_cmp}
use Rattle.std.specs.FinSet as set
use Rattle.std.proofs.lemmas.Bool.{le-leb, leb-true}
use Rattle.std.proofs.lemmas.Bool.Decides.{nat_tests}
use Rattle.hk_model.specs.Replica.Streams.{covers}
use Rattle.hk_model.proofs.Replica.Streams.{tied_counts}
use Rattle.hk_marks.specs.Parts.{HasPrefix}
use Rattle.hk_marks.specs.Told.{greatest_reached}

reached_most : (t : set.FinSet nat_cmp) (p : ℕ) → HasPrefix t p → (ks : List ℕ) → greatest_reached t ks ≤ p
reached_most t p law [] = omega arith
reached_most t p law (k ∷ ks) = by (covers t k) refl (reached_most t p law ks)
  where
    by : (b : Bool) → covers t k ≡ b → greatest_reached t ks ≤ p → cond b (max k (greatest_reached t ks)) (greatest_reached t ks) ≤ p
    by true c le = let l : k ≤ p = leb-true k p (sym (law k) ∙ c) in omega arith
    by false c le = le

pub reached_there : (t : set.FinSet nat_cmp) (p : ℕ) → covers t p ≡ true → (ks : List ℕ) → list_any (eq_by_cmp nat_cmp p) ks ≡ true → p ≤ greatest_reached t ks
reached_there t p c [] e = absurd cc
reached_there t p c (k ∷ ks) e = by (eq_by_cmp nat_cmp p k) refl e (covers t k) refl (reached_there t p c ks)
  where
    by : (b : Bool) → eq_by_cmp nat_cmp p k ≡ b → (b || list_any (eq_by_cmp nat_cmp p) ks) ≡ true → (d : Bool) → covers t k ≡ d → (list_any (eq_by_cmp nat_cmp p) ks ≡ true → p ≤ greatest_reached t ks) → p ≤ cond d (max k (greatest_reached t ks)) (greatest_reached t ks)
    by true s f true g rest = let is : p ≡ k = tied_counts p k s in omega (arith, is)
    by true s f false g rest = absurd (true≢false (sym c ∙ ap (covers t) (tied_counts p k s) ∙ g))
    by false s f true g rest = let l = rest f in omega arith
    by false s f false g rest = rest f

-- the prefix is the greatest number that is reached
pub prefix_reached : (t : set.FinSet nat_cmp) (p : ℕ) → HasPrefix t p → greatest_reached t (set.items t) ≡ p
prefix_reached t zero law = let le = reached_most t 0 law (set.items t) in omega arith
prefix_reached t (suc p) law =
    let le = reached_most t (suc p) law (set.items t) in
    let all : covers t (suc p) ≡ true = law (suc p) ∙ le-leb (suc p) (suc p) (omega arith) in
    let there : list_any (eq_by_cmp nat_cmp (suc p)) (set.items t) ≡ true = sym (set.contains-items t (suc p)) ∙ first (set.contains t (suc p)) (covers t p) all in
    let ge = reached_there t (suc p) all (set.items t) there in
    omega arith
  where
    first : (a b : Bool) → (a && b) ≡ true → a ≡ true
    first true b e = refl
    first false b e = e

-- ---- how many numbers a set of rising ones has

differs : (k x : ℕ) → nat_cmp k x ≡ Less → eq_by_cmp nat_cmp k x ≡ false
differs k x below = grind (arith, nat_tests)

absent : (k : ℕ) (ks : List ℕ) → AllByRecursion (λ x. nat_cmp k x ≡ Less) ks → list_any (eq_by_cmp nat_cmp k) ks ≡ false
absent k [] below = refl
absent k (x ∷ ks) below = ap (λ b. b || list_any (eq_by_cmp nat_cmp k) ks) (differs k x below.0) ∙ absent k ks below.1

pub len-rising : (ks : List ℕ) → IsStrictlySortedBy nat_cmp ks → set.len (set.from_list {R = nat_cmp} ks) ≡ length ks
unfolding IsStrictlySortedBy
len-rising [] rising = set.len-empty nat_cmp
len-rising (k ∷ ks) rising =
    let rest = len-rising ks rising.1 in
    let new = set.contains-from_list nat_cmp_total ks k ∙ absent k ks rising.0 in
    set.len-insert nat_cmp_total (set.from_list ks) k
    ∙ ap (λ b. cond b (set.len (set.from_list {R = nat_cmp} ks)) (set.len (set.from_list {R = nat_cmp} ks) + 1)) new
    ∙ omega (arith, rest)
