-- What the stored trees answer is what the maps and sets that are seen answer.
use Rattle.std.proofs.Common.{◌≡◌, refl, sym, ap, ◌∙◌, ℕ, zero, suc, ◌<◌, ◌≤◌, ◌+◌, ◌^◌, Bool, true, false, cond, Some, None, List, [], ◌∷◌, ◌||◌, ◌&&◌, ltb, leb, nat_cmp, Ordering, arith, max, true≢false, Result, Ok, Err, OnOk, OnErr}
use Rattle.std.proofs.lemmas.Bool.Decides.{nat_tests}
use Rattle.std.proofs.lemmas.Bool.{and_parts}
use Rattle.std.specs.Map.{lookup}
use Rattle.std.specs.Ordering.{eq_by_cmp}
use Rattle.std.specs.Cmp.{IsTotalOrder, nat_cmp_total, eq_by_cmp_equiv}
use Rattle.std.specs.BTreeMap.{BTreeMap, is_at}
use Rattle.std.specs.BTreeMap as tree
use Rattle.std.specs.FinMap as finmap
use Rattle.std.specs.FinMap.{find}
use Rattle.std.specs.FinSet as set
use Rattle.hk_model.specs.Replica.Streams.{covers, stream_with}
use Rattle.hk_marks.proofs.CoveredMarks.{covers_prefix, settled-forget, settled-done, mark_covered, mark_waits}
use Rattle.hk_marks.specs.Seen.{up_to, taken_seen, waiting_seen, IsExtra, WaitsAbove, IsStored, stream_seen}
use Rattle.hk_marks.specs.Steps.{with_number, with_mark}
use Rattle.hk_model.proofs.Replica.Streams.{later, told}

pub find_lookup : {K X : Type 0} (R : K → K → Ordering) (q : K) (es : List (K × X)) → find R q es ≡ lookup (is_at (R q)) es
find_lookup R q [] = refl
find_lookup R q (e ∷ es) = ap (cond (eq_by_cmp R q e.0) (Some e.1)) (find_lookup R q es)

module _ {K X : Type 0} {R : K → K → Ordering} where
  module _ (o : IsTotalOrder R) where
    pub get_seen : (m : BTreeMap K X) (q : K) → finmap.get (finmap.from_entries {R = R} m.entries) q ≡ tree.get R m q
    get_seen m q = finmap.get-from_entries o m.entries q ∙ find_lookup R q m.entries

    module _ (same : finmap.IsAntisymmetric R) where
      pub seen_insert : (m n : BTreeMap K X) (k : K) (v : X) → tree.Updates R m n k (Some v) → finmap.from_entries {R = R} n.entries ≡ finmap.insert (finmap.from_entries m.entries) k v
      seen_insert m n k v u = finmap.same_map o same _ _ (λ q.
          get_seen n q ∙ u.0 q
          ∙ (λ i. cond ((eq_by_cmp_equiv o).symm k q i) (Some v) (sym (get_seen m q) i))
          ∙ sym (finmap.get-insert o _ k v q))

      pub seen_remove : (m n : BTreeMap K X) (k : K) → tree.Updates R m n k None → finmap.from_entries {R = R} n.entries ≡ finmap.remove (finmap.from_entries m.entries) k
      seen_remove m n k u = finmap.same_map o same _ _ (λ q.
          get_seen n q ∙ u.0 q
          ∙ (λ i. cond ((eq_by_cmp_equiv o).symm k q i) None (sym (get_seen m q) i))
          ∙ sym (finmap.get-remove o _ k q))

pub get-waiting_seen : (m : BTreeMap ℕ ℕ) (q : ℕ) → finmap.get (waiting_seen m) q ≡ tree.get nat_cmp m q
unfolding waiting_seen
get-waiting_seen m q = get_seen nat_cmp_total m q

above_here : (n q : ℕ) → (eq_by_cmp nat_cmp q (suc n) || (ltb 0 q && leb q n)) ≡ (ltb 0 q && leb q (suc n))
above_here n q = grind (arith, nat_tests)

none_here : (q : ℕ) → false ≡ (ltb 0 q && leb q 0)
none_here q = grind (arith, nat_tests)

pub contains-up_to : (n q : ℕ) → set.contains (up_to n) q ≡ (ltb 0 q && leb q n)
contains-up_to zero q = set.contains-empty nat_cmp q ∙ none_here q
contains-up_to (suc n) q = set.contains-insert nat_cmp_total (up_to n) (suc n) q ∙ ap (λ b. eq_by_cmp nat_cmp q (suc n) || b) (contains-up_to n q) ∙ above_here n q

pub contains-taken_seen : (p : ℕ) (extra : set.FinSet nat_cmp) (q : ℕ) → set.contains (taken_seen p extra) q ≡ ((ltb 0 q && leb q p) || set.contains extra q)
unfolding taken_seen
contains-taken_seen p extra q =
    set.contains-union nat_cmp_total (up_to p) extra q
    ∙ ap (λ b. b || set.contains extra q) (contains-up_to p q)

tied : (a b : ℕ) → eq_by_cmp nat_cmp a b ≡ true → a ≡ b
tied a b e = grind (arith, nat_tests)

-- what is left of a set above a number
contains-above : (r : ℕ) (extra after : set.FinSet nat_cmp) → after ≡ set.retain extra (λ q. ltb r q) → (q : ℕ) → set.contains after q ≡ (set.contains extra q && ltb r q)
contains-above r extra after is q =
    ap (λ (s : set.FinSet nat_cmp). set.contains s q) is
    ∙ set.contains-retain extra (λ n. ltb r n) q (λ x t. ap (ltb r) (sym (finmap.nat_cmp-IsAntisymmetric q x t)))

-- the numbers that the prefix reaches leave the extra ones for the prefix
pub taken_seen-grown : (p r : ℕ) (extra after : set.FinSet nat_cmp) → ((q : ℕ) → set.contains extra q ≡ true → 0 < q) → p ≤ r → ((q : ℕ) → p < q → q ≤ r → set.contains extra q ≡ true)
    → after ≡ set.retain extra (λ q. ltb r q) → taken_seen r after ≡ taken_seen p extra
taken_seen-grown p r extra after least grows reached is = set.same_set nat_cmp_total finmap.nat_cmp-IsAntisymmetric _ _ (λ q.
    contains-taken_seen r after q
    ∙ ap (λ b. (ltb 0 q && leb q r) || b) (contains-above r extra after is q)
    ∙ elim (set.contains extra q) as (λ x. set.contains extra q ≡ x → ((ltb 0 q && leb q r) || (x && ltb r q)) ≡ ((ltb 0 q && leb q p) || x)) [
      | true ↦ λ e. there q (least q e)
      | false ↦ λ e. elim (ltb p q) as (λ b. ltb p q ≡ b → ((ltb 0 q && leb q r) || (false && ltb r q)) ≡ ((ltb 0 q && leb q p) || false)) [
        | true ↦ λ t. beyond q t (λ l. true≢false (sym (reached q (above q t) l) ∙ e))
        | false ↦ λ t. within q t
      ] refl
    ] refl
    ∙ sym (contains-taken_seen p extra q))
  where
    above : (q : ℕ) → ltb p q ≡ true → p < q
    above q t = grind (arith, nat_tests)

    there : (q : ℕ) → 0 < q → ((ltb 0 q && leb q r) || (true && ltb r q)) ≡ ((ltb 0 q && leb q p) || true)
    there q l = grind (arith, nat_tests)

    beyond : (q : ℕ) → ltb p q ≡ true → (q ≤ r → ⊥) → ((ltb 0 q && leb q r) || (false && ltb r q)) ≡ ((ltb 0 q && leb q p) || false)
    beyond q t never = elim (leb q r) as (λ b. leb q r ≡ b → ((ltb 0 q && leb q r) || (false && ltb r q)) ≡ ((ltb 0 q && leb q p) || false)) [
      | true ↦ λ l. absurd (never (grind (arith, nat_tests)))
      | false ↦ λ l. grind (arith, nat_tests)
    ] refl

    within : (q : ℕ) → ltb p q ≡ false → ((ltb 0 q && leb q r) || (false && ltb r q)) ≡ ((ltb 0 q && leb q p) || false)
    within q t = grind (arith, nat_tests)

-- and what is left lies above the next number
pub extra-grown : (r : ℕ) (extra after : set.FinSet nat_cmp) → set.contains extra (r + 1) ≡ false → ((q : ℕ) → set.contains extra q ≡ true → q ≤ 2 ^ 62) → after ≡ set.retain extra (λ q. ltb r q) → IsExtra r after
extra-grown r extra after next most is q e =
    let parts = and_parts (set.contains extra q) (ltb r q) (sym (contains-above r extra after is q) ∙ e) in
    (further (ltb (r + 1) q) refl parts.1 parts.0, most q parts.0)
  where
    further : (b : Bool) → ltb (r + 1) q ≡ b → ltb r q ≡ true → set.contains extra q ≡ true → r + 1 < q
    further true t l h = grind (arith, nat_tests)
    further false t l h = let same : q ≡ r + 1 = grind (arith, nat_tests) in absurd (true≢false (sym h ∙ ap (set.contains extra) same ∙ next))

-- the numbers up to one above the prefix join it
pub taken_seen-upto : (p n : ℕ) (extra : set.FinSet nat_cmp) → p ≤ n → taken_seen n extra ≡ set.union (taken_seen p extra) (up_to n)
taken_seen-upto p n extra below = set.same_set nat_cmp_total finmap.nat_cmp-IsAntisymmetric _ _ (λ q.
    contains-taken_seen n extra q
    ∙ joined q (set.contains extra q)
    ∙ (λ i. sym (contains-taken_seen p extra q) i || sym (contains-up_to n q) i)
    ∙ sym (set.contains-union nat_cmp_total (taken_seen p extra) (up_to n) q))
  where
    joined : (q : ℕ) (x : Bool) → ((ltb 0 q && leb q n) || x) ≡ (((ltb 0 q && leb q p) || x) || (ltb 0 q && leb q n))
    joined q true = grind (arith, nat_tests)
    joined q false = grind (arith, nat_tests)

-- the numbers up to one of the prefix are taken already
pub taken_seen-within : (p n : ℕ) (extra : set.FinSet nat_cmp) → n ≤ p → taken_seen p extra ≡ set.union (taken_seen p extra) (up_to n)
taken_seen-within p n extra below = set.same_set nat_cmp_total finmap.nat_cmp-IsAntisymmetric _ _ (λ q.
    contains-taken_seen p extra q
    ∙ joined q (set.contains extra q)
    ∙ (λ i. sym (contains-taken_seen p extra q) i || sym (contains-up_to n q) i)
    ∙ sym (set.contains-union nat_cmp_total (taken_seen p extra) (up_to n) q))
  where
    joined : (q : ℕ) (x : Bool) → ((ltb 0 q && leb q p) || x) ≡ (((ltb 0 q && leb q p) || x) || (ltb 0 q && leb q n))
    joined q true = grind (arith, nat_tests)
    joined q false = grind (arith, nat_tests)

-- another extra number joins
pub taken_seen-insert : (p : ℕ) (extra after : set.FinSet nat_cmp) (k : ℕ) → after ≡ set.insert extra k → taken_seen p after ≡ set.insert (taken_seen p extra) k
taken_seen-insert p extra after k is = set.same_set nat_cmp_total finmap.nat_cmp-IsAntisymmetric _ _ (λ q.
    contains-taken_seen p after q
    ∙ ap (λ b. (ltb 0 q && leb q p) || b) (ap (λ (s : set.FinSet nat_cmp). set.contains s q) is ∙ set.contains-insert nat_cmp_total extra k q)
    ∙ joined (eq_by_cmp nat_cmp q k) (ltb 0 q && leb q p) (set.contains extra q)
    ∙ ap (λ b. eq_by_cmp nat_cmp q k || b) (sym (contains-taken_seen p extra q))
    ∙ sym (set.contains-insert nat_cmp_total (taken_seen p extra) k q))
  where
    joined : (a b c : Bool) → (b || (a || c)) ≡ (a || (b || c))
    joined true true c = refl
    joined true false c = refl
    joined false b c = refl

-- the next number joins the prefix
pub taken_seen-next : (p : ℕ) (extra : set.FinSet nat_cmp) → taken_seen (p + 1) extra ≡ set.insert (taken_seen p extra) (p + 1)
taken_seen-next p extra = set.same_set nat_cmp_total finmap.nat_cmp-IsAntisymmetric _ _ (λ q.
    contains-taken_seen (p + 1) extra q
    ∙ next p q (set.contains extra q)
    ∙ ap (λ b. eq_by_cmp nat_cmp q (p + 1) || b) (sym (contains-taken_seen p extra q))
    ∙ sym (set.contains-insert nat_cmp_total (taken_seen p extra) (p + 1) q))
  where
    next : (p q : ℕ) (x : Bool) → ((ltb 0 q && leb q (p + 1)) || x) ≡ (eq_by_cmp nat_cmp q (p + 1) || ((ltb 0 q && leb q p) || x))
    next p q true = grind (arith, nat_tests)
    next p q false = grind (arith, nat_tests)

-- a number of the prefix is taken already
pub taken_seen-again : (p : ℕ) (extra : set.FinSet nat_cmp) (k : ℕ) → 0 < k → k ≤ p → set.insert (taken_seen p extra) k ≡ taken_seen p extra
taken_seen-again p extra k above below = set.same_set nat_cmp_total finmap.nat_cmp-IsAntisymmetric _ _ (λ q.
    set.contains-insert nat_cmp_total (taken_seen p extra) k q
    ∙ ap (λ b. eq_by_cmp nat_cmp q k || b) (contains-taken_seen p extra q)
    ∙ again q (set.contains extra q)
    ∙ sym (contains-taken_seen p extra q))
  where
    again : (q : ℕ) (x : Bool) → (eq_by_cmp nat_cmp q k || ((ltb 0 q && leb q p) || x)) ≡ ((ltb 0 q && leb q p) || x)
    again q true = grind (arith, nat_tests)
    again q false = grind (arith, nat_tests)

-- a stream with extra numbers above the next covers its prefix
pub covers_seen : (p : ℕ) (extra : set.FinSet nat_cmp) → IsExtra p extra → (n : ℕ) → covers (taken_seen p extra) n ≡ leb n p
covers_seen p extra above = covers_prefix (taken_seen p extra) p
    (λ q a b. contains-taken_seen p extra q ∙ within q a b)
    (contains-taken_seen p extra (p + 1) ∙ out (set.contains extra (p + 1)) (λ e. (above (p + 1) e).0))
  where
    within : (q : ℕ) → 0 < q → q ≤ p → ((ltb 0 q && leb q p) || set.contains extra q) ≡ true
    within q a b = let e : (ltb 0 q && leb q p) ≡ true = grind (arith, nat_tests) in ap (λ x. x || set.contains extra q) e

    out : (x : Bool) → (x ≡ true → p + 1 < p + 1) → ((ltb 0 (p + 1) && leb (p + 1) p) || x) ≡ false
    out true h = absurd (let l = h refl in omega arith)
    out false h = grind (arith, nat_tests)

-- a covered mark leaves the stored ones
pub settled_step : (p : ℕ) (t : set.FinSet nat_cmp) → ((n : ℕ) → covers t n ≡ leb n p) → (c d : ℕ) (m n : BTreeMap ℕ ℕ) (k v : ℕ) → k ≤ p → tree.get nat_cmp m k ≡ Some v → tree.Updates nat_cmp m n k None → max c v ≡ d
    → stream_with t c (finmap.entries (waiting_seen m)) ≡ stream_with t d (finmap.entries (waiting_seen n))
settled_step p t law c d m n k v below has u greater =
    let cov : covers t k ≡ true = (let e : leb k p ≡ true = grind (arith, nat_tests) in law k ∙ e) in
    settled-forget t c (waiting_seen m) (waiting_seen n) k v cov (get-waiting_seen m k ∙ has)
    (λ q. get-waiting_seen n q ∙ u.0 q ∙ ap (cond (eq_by_cmp nat_cmp k q) None) (sym (get-waiting_seen m q)))
    ∙ ap (λ x. stream_with t x (finmap.entries (waiting_seen n))) greater

-- what is left waits
pub settled_left : (p : ℕ) (t : set.FinSet nat_cmp) → ((n : ℕ) → covers t n ≡ leb n p) → (c : ℕ) (m : BTreeMap ℕ ℕ) → WaitsAbove p m
    → stream_with t c (finmap.entries (waiting_seen m)) ≡ record { taken = t; closed = c; waiting = waiting_seen m }
settled_left p t law c m waits = settled-done t c (waiting_seen m) (λ q x e. let above : p < q = waits q x (sym (get-waiting_seen m q) ∙ e) in let f : leb q p ≡ false = grind (arith, nat_tests) in law q ∙ f)

-- ---- one number

pub number_again : (p : ℕ) (extra : set.FinSet nat_cmp) (c : ℕ) (w : BTreeMap ℕ ℕ) (k : ℕ) → IsStored p extra w → 0 < k → k ≤ p → stream_seen p extra c w ≡ with_number (stream_seen p extra c w) k
number_again p extra c w k ok above below =
    sym (ap (λ t. stream_with t c (finmap.entries (waiting_seen w))) (taken_seen-again p extra k above below) ∙ settled_left p (taken_seen p extra) (covers_seen p extra ok.extras) c w ok.waits)

pub more_extra : (p : ℕ) (extra after : set.FinSet nat_cmp) (k : ℕ) → IsExtra p extra → after ≡ set.insert extra k → p + 1 < k → k ≤ 2 ^ 62 → IsExtra p after
more_extra p extra after k ok is above most q h = other (eq_by_cmp nat_cmp q k) refl (ok q) (sym (ap (λ (s : set.FinSet nat_cmp). set.contains s q) is ∙ set.contains-insert nat_cmp_total extra k q) ∙ h)
  where
    other : (b : Bool) → eq_by_cmp nat_cmp q k ≡ b → (set.contains extra q ≡ true → (p + 1 < q) × (q ≤ 2 ^ 62)) → (b || set.contains extra q) ≡ true → (p + 1 < q) × (q ≤ 2 ^ 62)
    other true t f e = let same : q ≡ k = tied q k t in (omega arith, omega arith)
    other false t f e = f e

pub number_extra : (p : ℕ) (extra after : set.FinSet nat_cmp) (c : ℕ) (w : BTreeMap ℕ ℕ) (k : ℕ) → IsStored p extra w → after ≡ set.insert extra k → p + 1 < k → k ≤ 2 ^ 62 → stream_seen p after c w ≡ with_number (stream_seen p extra c w) k
number_extra p extra after c w k ok is above most =
    sym (ap (λ t. stream_with t c (finmap.entries (waiting_seen w))) (sym (taken_seen-insert p extra after k is))
    ∙ settled_left p (taken_seen p after) (covers_seen p after (more_extra p extra after k ok.extras is above most)) c w ok.waits)

pub number_next : (p k : ℕ) (extra : set.FinSet nat_cmp) (c : ℕ) (w : BTreeMap ℕ ℕ) (g : ℕ) (grown_extra : set.FinSet nat_cmp) (d : ℕ) (v : BTreeMap ℕ ℕ) → k ≡ p + 1 → taken_seen g grown_extra ≡ taken_seen k extra
    → stream_with (taken_seen g grown_extra) c (finmap.entries (waiting_seen w)) ≡ record { taken = taken_seen g grown_extra; closed = d; waiting = waiting_seen v }
    → stream_seen g grown_extra d v ≡ with_number (stream_seen p extra c w) k
number_next p k extra c w g grown_extra d v is same settles =
    sym settles ∙ ap (λ t. stream_with t c (finmap.entries (waiting_seen w))) (same ∙ ap (λ x. taken_seen x extra) is ∙ taken_seen-next p extra ∙ ap (set.insert (taken_seen p extra)) (sym is))

pub has_below : (p : ℕ) (extra : set.FinSet nat_cmp) (k : ℕ) → IsExtra p extra → k ≤ p → ltb 0 k ≡ set.contains (taken_seen p extra) k
has_below p extra k above below = here (set.contains extra k) (λ e. (above k e).0) ∙ sym (contains-taken_seen p extra k)
  where
    here : (x : Bool) → (x ≡ true → p + 1 < k) → ltb 0 k ≡ ((ltb 0 k && leb k p) || x)
    here true h = absurd (let l = h refl in omega arith)
    here false h = grind (arith, nat_tests)

pub has_above : (p : ℕ) (extra : set.FinSet nat_cmp) (k : ℕ) → p < k → set.contains extra k ≡ set.contains (taken_seen p extra) k
has_above p extra k above = here (set.contains extra k) ∙ sym (contains-taken_seen p extra k)
  where
    here : (x : Bool) → x ≡ ((ltb 0 k && leb k p) || x)
    here true = grind (arith, nat_tests)
    here false = grind (arith, nat_tests)

-- ---- one mark

waits_seen : (p : ℕ) (extra : set.FinSet nat_cmp) (w : BTreeMap ℕ ℕ) → IsStored p extra w → (q x : ℕ) → finmap.get (waiting_seen w) q ≡ Some x → covers (taken_seen p extra) q ≡ false
waits_seen p extra w ok q x e = let above : p < q = ok.waits q x (sym (get-waiting_seen w q) ∙ e) in let f : leb q p ≡ false = grind (arith, nat_tests) in covers_seen p extra ok.extras q ∙ f

pub mark_closes : (p : ℕ) (extra : set.FinSet nat_cmp) (c : ℕ) (w : BTreeMap ℕ ℕ) (k m d : ℕ) → IsStored p extra w → k ≤ p → d ≡ max c m → stream_seen p extra d w ≡ with_mark (stream_seen p extra c w) k m
mark_closes p extra c w k m d ok below is =
    let f : leb k p ≡ true = grind (arith, nat_tests) in
    mark_covered (taken_seen p extra) c (waiting_seen w) k m d (covers_seen p extra ok.extras k ∙ f) (waits_seen p extra w ok) is

pub mark_left : (p : ℕ) (extra : set.FinSet nat_cmp) (c : ℕ) (w v : BTreeMap ℕ ℕ) (k m : ℕ) → IsStored p extra w → p < k → ((q : ℕ) → tree.get nat_cmp v q ≡ later (told (k, m) q) (tree.get nat_cmp w q)) → stream_seen p extra c v ≡ with_mark (stream_seen p extra c w) k m
mark_left p extra c w v k m ok above is =
    let f : leb k p ≡ false = grind (arith, nat_tests) in
    mark_waits (taken_seen p extra) c (waiting_seen w) (waiting_seen v) k m (covers_seen p extra ok.extras k ∙ f) (waits_seen p extra w ok)
    (λ q. get-waiting_seen v q ∙ is q ∙ ap (later (told (k, m) q)) (sym (get-waiting_seen w q)))

pub seen_same : (p : ℕ) (extra : set.FinSet nat_cmp) (c : ℕ) (w v : BTreeMap ℕ ℕ) → v.entries ≡ w.entries → stream_seen p extra c v ≡ stream_seen p extra c w
unfolding waiting_seen
seen_same p extra c w v is = ap (λ es. record { taken = taken_seen p extra; closed = c; waiting = finmap.from_entries {R = nat_cmp} es }) is

pub OnOk_map : {A E : Type 0} {P Q : Type 0} (r : Result A E) → (P → Q) → OnOk r P → OnOk r Q
OnOk_map (Ok a) f p = f p
OnOk_map (Err e) f p = p

pub OnErr_map : {A E : Type 0} {P Q : Type 0} (r : Result A E) → (P → Q) → OnErr r P → OnErr r Q
OnErr_map (Ok a) f p = p
OnErr_map (Err e) f p = f p
