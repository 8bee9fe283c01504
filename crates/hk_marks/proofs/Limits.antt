-- Numbers, times and marks stay in their limits, whatever a stream takes.
use Rattle.std.proofs.Common.{◌≡◌, refl, sym, ap, ◌∙◌, subst, ℕ, ◌≤◌, ◌^◌, Bool, true, false, cond, not, Option, Some, None, List, [], ◌∷◌, ◌++◌, ◌||◌, ◌&&◌, ltb, leb, nat_cmp, arith, max, All}
use Rattle.std.proofs.lemmas.Bool.Decides.{nat_tests}
use Rattle.std.proofs.lemmas.List.Elements.{All-cons, All-nil, All-head, All-tail}
use Rattle.std.specs.Ordering.{eq_by_cmp}
use Rattle.std.specs.Cmp.{nat_cmp_total}
use Rattle.std.specs.FinMap as finmap
use Rattle.std.specs.FinSet as set
use Rattle.hk_model.proofs.Replica.Maps.{get-retain}
use Rattle.hk_model.proofs.Replica.Streams.{later, told, latest, or_zero, latest-append, latest-entries, get-by_count, greatest_bound, tied_counts}
use Rattle.hk_model.specs.Replica.Streams.{StreamContent, covers, by_count, stream_with, together, all_together, unknown}
use Rattle.hk_marks.proofs.StoredStreams.{contains-up_to}
use Rattle.hk_marks.specs.Seen.{IsNumbered, up_to}
use Rattle.hk_marks.specs.Steps.{with_number, with_mark, with_prefix}

-- what marks tell at a count: nothing, or a time that is not below it
abbrev At : ℕ → Option ℕ → Type 0
At q None = Unit {0}
At q (Some m) = (q ≤ m) × (m ≤ 2 ^ 62)

-- marks that are of no more entries than their times
abbrev Fit : List (ℕ × ℕ) → Type 0
Fit ms = (q : ℕ) → At q (latest ms q)

later_fit : (q : ℕ) (x y : Option ℕ) → At q x → At q y → At q (later x y)
later_fit q None y a b = b
later_fit q (Some u) None a b = a
later_fit q (Some u) (Some v) a b = (omega arith, omega arith)

found_fit : (q : ℕ) (x : Option ℕ) → ((m : ℕ) → x ≡ Some m → (q ≤ m) × (m ≤ 2 ^ 62)) → At q x
found_fit q None each = tt
found_fit q (Some m) each = each m refl

told_fit : (k m q : ℕ) → k ≤ m → m ≤ 2 ^ 62 → At q (told (k, m) q)
told_fit k m q above most =
    elim (eq_by_cmp nat_cmp q k) as (λ b. eq_by_cmp nat_cmp q k ≡ b → At q (cond b (Some m) None)) [
      | true ↦ λ e. let is : q ≡ k = tied_counts q k e in (omega arith, most)
      | false ↦ λ e. tt
    ] refl

bound : (q : ℕ) (x : Option ℕ) → At q x → or_zero x ≤ 2 ^ 62
bound q None a = omega arith
bound q (Some m) a = a.1

-- the marks that wait
waiting_fit : (s : StreamContent) → IsNumbered s → Fit (finmap.entries s.waiting)
waiting_fit s is q = subst (At q) (sym (latest-entries s.waiting q)) (found_fit q (finmap.get s.waiting q) (is.marks q))

append_fit : (ms ns : List (ℕ × ℕ)) → Fit ms → Fit ns → Fit (ms ++ ns)
append_fit ms ns f g q = subst (At q) (sym (latest-append ms ns q)) (later_fit q (latest ms q) (latest ns q) (f q) (g q))

kept : (b : Bool) (x : Option ℕ) (r : ℕ) → cond b x None ≡ Some r → x ≡ Some r
kept true x r e = e
kept false x r e = absurd cc

settled_numbered : (t : set.FinSet nat_cmp) (c : ℕ) (ms : List (ℕ × ℕ)) → set.contains t 0 ≡ false → ((q : ℕ) → set.contains t q ≡ true → q ≤ 2 ^ 62) → c ≤ 2 ^ 62 → Fit ms → IsNumbered (stream_with t c ms)
settled_numbered t c ms one most closed fit =
    record {
      from_one = one;
      numbers = most;
      closed = (let covered = greatest_bound t (2 ^ 62) ms (λ q _. bound q (latest ms q) (fit q)) in omega arith);
      marks = λ q m e.
          let found : finmap.get (by_count ms) q ≡ Some m = kept (not (covers t q)) (finmap.get (by_count ms) q) m (sym (get-retain nat_cmp_total finmap.nat_cmp-IsAntisymmetric (by_count ms) (λ n. not (covers t n)) q) ∙ e) in
          subst (At q) (sym (get-by_count ms q) ∙ found) (fit q);
    }

pub unknown_numbered : IsNumbered unknown
unknown_numbered = settled_numbered set.empty 0 [] (set.contains-empty nat_cmp 0) (λ q e. absurd (let f = set.contains-empty nat_cmp q in cc)) (omega arith) (λ q. tt)

pub with_number_numbered : (s : StreamContent) (n : ℕ) → IsNumbered s → 1 ≤ n → n ≤ 2 ^ 62 → IsNumbered (with_number s n)
with_number_numbered s n is least most =
    settled_numbered (set.insert s.taken n) s.closed (finmap.entries s.waiting)
    (set.contains-insert nat_cmp_total s.taken n 0 ∙ ap (λ b. b || set.contains s.taken 0) (apart n least) ∙ is.from_one)
    (λ q e. one_of q (eq_by_cmp nat_cmp q n) refl (sym (set.contains-insert nat_cmp_total s.taken n q) ∙ e))
    is.closed (waiting_fit s is)
  where
    apart : (n : ℕ) → 1 ≤ n → eq_by_cmp nat_cmp 0 n ≡ false
    apart n least = grind (arith, nat_tests)

    one_of : (q : ℕ) (b : Bool) → eq_by_cmp nat_cmp q n ≡ b → (b || set.contains s.taken q) ≡ true → q ≤ 2 ^ 62
    one_of q true t e = let same : q ≡ n = tied_counts q n t in omega arith
    one_of q false t e = is.numbers q e

pub with_mark_numbered : (s : StreamContent) (n m : ℕ) → IsNumbered s → n ≤ m → m ≤ 2 ^ 62 → IsNumbered (with_mark s n m)
with_mark_numbered s n m is truthful most =
    settled_numbered s.taken s.closed ((n, m) ∷ finmap.entries s.waiting) is.from_one is.numbers is.closed
    (λ q. later_fit q (told (n, m) q) (latest (finmap.entries s.waiting) q) (told_fit n m q truthful most) (waiting_fit s is q))

-- what is in neither of two sets, and what is in one of them
in_union : (a b : set.FinSet nat_cmp) → set.contains a 0 ≡ false → set.contains b 0 ≡ false → set.contains (set.union a b) 0 ≡ false
in_union a b f g = set.contains-union nat_cmp_total a b 0 ∙ (λ i. f i || g i)

of_union : (a b : set.FinSet nat_cmp) → ((q : ℕ) → set.contains a q ≡ true → q ≤ 2 ^ 62) → ((q : ℕ) → set.contains b q ≡ true → q ≤ 2 ^ 62) → (q : ℕ) → set.contains (set.union a b) q ≡ true → q ≤ 2 ^ 62
of_union a b f g q e = by (set.contains a q) refl (sym (set.contains-union nat_cmp_total a b q) ∙ e)
  where
    by : (x : Bool) → set.contains a q ≡ x → (x || set.contains b q) ≡ true → q ≤ 2 ^ 62
    by true h e = f q h
    by false h e = g q e

pub raised_numbered : (s : StreamContent) (prefix closed : ℕ) → IsNumbered s → prefix ≤ 2 ^ 62 → closed ≤ 2 ^ 62 → IsNumbered (with_prefix s prefix closed)
raised_numbered s prefix closed is most time =
    settled_numbered (set.union s.taken (up_to prefix)) (max s.closed closed) (finmap.entries s.waiting)
    (in_union s.taken (up_to prefix) is.from_one (contains-up_to prefix 0 ∙ none prefix))
    (of_union s.taken (up_to prefix) is.numbers (λ q e. within q (sym (contains-up_to prefix q) ∙ e)))
    (let here = is.closed in omega arith) (waiting_fit s is)
  where
    none : (n : ℕ) → (ltb 0 0 && leb 0 n) ≡ false
    none n = refl

    within : (q : ℕ) → (ltb 0 q && leb q prefix) ≡ true → q ≤ 2 ^ 62
    within q e = grind (arith, nat_tests)

together_numbered : (a b : StreamContent) → IsNumbered a → IsNumbered b → IsNumbered (together a b)
together_numbered a b is and =
    settled_numbered (set.union a.taken b.taken) (max a.closed b.closed) (finmap.entries a.waiting ++ finmap.entries b.waiting)
    (in_union a.taken b.taken is.from_one and.from_one) (of_union a.taken b.taken is.numbers and.numbers)
    (let here = is.closed in let there = and.closed in omega arith)
    (append_fit (finmap.entries a.waiting) (finmap.entries b.waiting) (waiting_fit a is) (waiting_fit b and))

pub all_numbered : (xs ys : List StreamContent) → All IsNumbered xs → All IsNumbered ys → All IsNumbered (all_together xs ys)
all_numbered [] ys are and = All-nil IsNumbered
all_numbered (x ∷ xs) [] are and = All-nil IsNumbered
all_numbered (x ∷ xs) (y ∷ ys) are and =
    All-cons IsNumbered (together x y) (all_together xs ys) (together_numbered x y (All-head IsNumbered x xs are) (All-head IsNumbered y ys and)) (all_numbered xs ys (All-tail IsNumbered x xs are) (All-tail IsNumbered y ys and))
