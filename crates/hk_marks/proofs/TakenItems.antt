-- A number or a mark is what an item of it tells.
use Rattle.std.proofs.Common.{◌≡◌, refl, sym, ap, ◌∙◌, ℕ, zero, suc, ◌<◌, ◌≤◌, ◌+◌, ◌-◌, Bool, true, false, cond, Option, Some, None, List, [], ◌∷◌, ◌++◌, map, length, set as set_at, get_or, All, ◌||◌, ◌==◌, arith, max, le_antisymm, eqb-true, nat_cmp}
use Rattle.std.specs.Ordering.{eq_by_cmp}
use Rattle.std.proofs.lemmas.List.Elements.{All-head, All-tail, All-get_or}
use Rattle.std.specs.List.{range_with_len}
use Rattle.std.specs.Cmp.{nat_cmp_total}
use Rattle.std.specs.FinMap as finmap
use Rattle.std.specs.FinSet as set
use Rattle.hk_log.specs.Items.{EntryValue, MarkValue}
use Rattle.hk_log.specs.declared.item.Item.{Item}
use Rattle.hk_log.specs.declared.item.Item.TheVariants.{Commit, Closed}
use Rattle.hk_model.proofs.Replica.Streams.{later, latest, latest-append, or_zero, greatest_bound, greatest_above, together-settled}
use Rattle.hk_model.proofs.Replica.Repeats.{settled_itself, together_unknown}
use Rattle.hk_model.specs.Replica.Streams.{StreamContent, stream_with, greatest_covered, together, all_together, stream_of, streams_of, stream_at, unknown}
use Rattle.hk_model.specs.Replica.Lawful.{IsLawfulStream}
use Rattle.hk_marks.proofs.CoveredMarks.{settled_same}
use Rattle.hk_marks.specs.Steps.{with_number, with_mark}

-- marks that tell the same settle alike
pub settled_alike : (t : set.FinSet nat_cmp) (c : ℕ) (ms ns : List (ℕ × ℕ)) → ((q : ℕ) → latest ms q ≡ latest ns q) → stream_with t c ms ≡ stream_with t c ns
settled_alike t c ms ns alike =
    let a : greatest_covered t ms ≤ greatest_covered t ns = greatest_bound t (greatest_covered t ns) ms (λ q cq. let e = ap or_zero (alike q) in let l = greatest_above t q cq ns in omega arith) in
    let b : greatest_covered t ns ≤ greatest_covered t ms = greatest_bound t (greatest_covered t ms) ns (λ q cq. let e = ap or_zero (alike q) in let l = greatest_above t q cq ms in omega arith) in
    settled_same t c c ms ns (ap (max c) (le_antisymm a b)) (λ q _. alike q)

pub later_comm : (x y : Option ℕ) → later x y ≡ later y x
later_comm None None = refl
later_comm None (Some b) = refl
later_comm (Some a) None = refl
later_comm (Some a) (Some b) = let e : max a b ≡ max b a = omega arith in ap Some e

-- the order of the marks tells nothing
pub settled_swap : (t : set.FinSet nat_cmp) (c : ℕ) (ms ns : List (ℕ × ℕ)) → stream_with t c (ms ++ ns) ≡ stream_with t c (ns ++ ms)
settled_swap t c ms ns = settled_alike t c (ms ++ ns) (ns ++ ms) (λ q. latest-append ms ns q ∙ later_comm (latest ms q) (latest ns q) ∙ sym (latest-append ns ms q))

union_one : (s : set.FinSet nat_cmp) (n : ℕ) → set.union s (set.insert set.empty n) ≡ set.insert s n
union_one s n = set.same_set nat_cmp_total finmap.nat_cmp-IsAntisymmetric _ _ (λ q.
    set.contains-union nat_cmp_total s (set.insert set.empty n) q
    ∙ ap (λ b. set.contains s q || b) (set.contains-insert nat_cmp_total set.empty n q ∙ ap (λ b. eq_by_cmp nat_cmp q n || b) (set.contains-empty nat_cmp q))
    ∙ swapped (set.contains s q) (eq_by_cmp nat_cmp q n)
    ∙ sym (set.contains-insert nat_cmp_total s n q))
  where
    swapped : (a b : Bool) → (a || (b || false)) ≡ (b || a)
    swapped true true = refl
    swapped true false = refl
    swapped false true = refl
    swapped false false = refl

union_none : (s : set.FinSet nat_cmp) → set.union s set.empty ≡ s
union_none s = set.same_set nat_cmp_total finmap.nat_cmp-IsAntisymmetric _ _ (λ q.
    set.contains-union nat_cmp_total s set.empty q ∙ ap (λ b. set.contains s q || b) (set.contains-empty nat_cmp q) ∙ or_false (set.contains s q))
  where
    or_false : (b : Bool) → (b || false) ≡ b
    or_false true = refl
    or_false false = refl

no_more : (xs : List (ℕ × ℕ)) → xs ++ [] ≡ xs
no_more [] = refl
no_more (x ∷ xs) = ap (λ l. x ∷ l) (no_more xs)

max_zero : (c : ℕ) → max c 0 ≡ c
max_zero c = omega arith

pub number_told : (s : StreamContent) → IsLawfulStream s → (n : ℕ) → together s (stream_with (set.insert set.empty n) 0 []) ≡ with_number s n
number_told s l n =
    ap (λ x. together x (stream_with (set.insert set.empty n) 0 [])) (sym (settled_itself s l))
    ∙ together-settled s.taken (set.insert set.empty n) s.closed 0 (finmap.entries s.waiting) []
    ∙ (λ i. stream_with (union_one s.taken n i) (max_zero s.closed i) (no_more (finmap.entries s.waiting) i))

pub mark_told : (s : StreamContent) → IsLawfulStream s → (n m : ℕ) → together s (stream_with set.empty 0 ((n, m) ∷ [])) ≡ with_mark s n m
mark_told s l n m =
    ap (λ x. together x (stream_with set.empty 0 ((n, m) ∷ []))) (sym (settled_itself s l))
    ∙ together-settled s.taken set.empty s.closed 0 (finmap.entries s.waiting) ((n, m) ∷ [])
    ∙ (λ i. stream_with (union_none s.taken i) (max_zero s.closed i) (finmap.entries s.waiting ++ (n, m) ∷ []))
    ∙ settled_swap s.taken s.closed (finmap.entries s.waiting) ((n, m) ∷ [])

-- ---- items that tell of one stream alone

none_told : (items : List Item) (a : ℕ) (xs : List StreamContent) → All IsLawfulStream xs → ((k : ℕ) → a ≤ k → stream_of items k ≡ unknown) → all_together xs (map (stream_of items) (range_with_len a (length xs))) ≡ xs
none_told items a [] lawful none = refl
none_told items a (x ∷ xs) lawful none =
    let first : together x (stream_of items a) ≡ x = ap (together x) (none a (omega arith)) ∙ together_unknown x (All-head IsLawfulStream x xs lawful) in
    let rest = none_told items (a + 1) xs (All-tail IsLawfulStream x xs lawful) (λ k above. none k (omega arith)) in
    λ i. first i ∷ rest i

one_told : (items : List Item) (a k : ℕ) (xs : List StreamContent) → All IsLawfulStream xs → k < length xs → ((j : ℕ) → (j ≡ a + k → ⊥) → stream_of items j ≡ unknown)
    → all_together xs (map (stream_of items) (range_with_len a (length xs))) ≡ set_at xs k (together (get_or xs k unknown) (stream_of items (a + k)))
one_told items a k [] lawful within others = absurd (omega arith)
one_told items a zero (x ∷ xs) lawful within others =
    let here : a ≡ a + 0 = omega arith in
    let rest = none_told items (a + 1) xs (All-tail IsLawfulStream x xs lawful) (λ k above. others k (λ e. omega arith)) in
    λ i. together x (stream_of items (here i)) ∷ rest i
one_told items a (suc k) (x ∷ xs) lawful within others =
    let first : together x (stream_of items a) ≡ x = ap (together x) (others a (λ e. omega arith)) ∙ together_unknown x (All-head IsLawfulStream x xs lawful) in
    let there : (a + 1) + k ≡ a + suc k = omega arith in
    let rest = one_told items (a + 1) k xs (All-tail IsLawfulStream x xs lawful) (omega arith) (λ j apart. others j (λ e. apart (e ∙ sym there)))
    ∙ ap (λ n. set_at xs k (together (get_or xs k unknown) (stream_of items n))) there in
    λ i. first i ∷ rest i

not_equal : (a b : ℕ) → (b ≡ a → ⊥) → (a == b) ≡ false
not_equal a b apart = elim (a == b) as (λ t. (a == b) ≡ t → t ≡ false) [ true ↦ λ e. absurd (apart (sym (eqb-true a b e))) | false ↦ λ e. refl ] refl

equal : (a : ℕ) → (a == a) ≡ true
equal a = grind arith

own_entry_told : (streams : List StreamContent) → All IsLawfulStream streams → (e : EntryValue) → 1 ≤ e.stream → e.stream ≤ length streams
    → set_at streams (e.stream - 1) (with_number (stream_at streams e.stream) e.number) ≡ all_together streams (streams_of (length streams) (Commit e ∷ []))
own_entry_told streams lawful e above within =
    let there : 1 + (e.stream - 1) ≡ e.stream = omega arith in
    let is_lawful = All-get_or IsLawfulStream streams (e.stream - 1) unknown (omega arith) lawful in
    sym (one_told (Commit e ∷ []) 1 (e.stream - 1) streams lawful (omega arith)
    (λ j apart. ap (λ b. stream_with (set.from_list (cond b (e.number ∷ []) [])) 0 []) (not_equal e.stream j (λ same. apart (same ∙ sym there))))
    ∙ ap (λ k. set_at streams (e.stream - 1) (together (stream_at streams e.stream) (stream_of (Commit e ∷ []) k))) there
    ∙ ap (λ b. set_at streams (e.stream - 1) (together (stream_at streams e.stream) (stream_with (set.from_list (cond b (e.number ∷ []) [])) 0 []))) (equal e.stream)
    ∙ ap (set_at streams (e.stream - 1)) (number_told (stream_at streams e.stream) is_lawful e.number))

own_closed_told : (streams : List StreamContent) → All IsLawfulStream streams → (m : MarkValue) → 1 ≤ m.stream → m.stream ≤ length streams
    → set_at streams (m.stream - 1) (with_mark (stream_at streams m.stream) m.count m.upto) ≡ all_together streams (streams_of (length streams) (Closed m ∷ []))
own_closed_told streams lawful m above within =
    let there : 1 + (m.stream - 1) ≡ m.stream = omega arith in
    let is_lawful = All-get_or IsLawfulStream streams (m.stream - 1) unknown (omega arith) lawful in
    sym (one_told (Closed m ∷ []) 1 (m.stream - 1) streams lawful (omega arith)
    (λ j apart. ap (λ b. stream_with set.empty 0 (cond b ((m.count, m.upto) ∷ []) [])) (not_equal m.stream j (λ same. apart (same ∙ sym there))))
    ∙ ap (λ k. set_at streams (m.stream - 1) (together (stream_at streams m.stream) (stream_of (Closed m ∷ []) k))) there
    ∙ ap (λ b. set_at streams (m.stream - 1) (together (stream_at streams m.stream) (stream_with set.empty 0 (cond b ((m.count, m.upto) ∷ []) [])))) (equal m.stream)
    ∙ ap (set_at streams (m.stream - 1)) (mark_told (stream_at streams m.stream) is_lawful m.count m.upto))

-- the streams of a log with one more number are those with its entry
pub entry_told : (streams : List StreamContent) (s n : ℕ) → All IsLawfulStream streams → 1 ≤ s → s ≤ length streams → (e : EntryValue) → e.stream ≡ s → e.number ≡ n
    → set_at streams (s - 1) (with_number (stream_at streams s) n) ≡ all_together streams (streams_of (length streams) (Commit e ∷ []))
entry_told streams s n lawful above within e is same =
    (λ i. set_at streams (sym is i - 1) (with_number (stream_at streams (sym is i)) (sym same i)))
    ∙ own_entry_told streams lawful e (omega arith) (omega arith)

-- the streams of a log with one more mark are those with its item
pub closed_told : (streams : List StreamContent) (s n m : ℕ) → All IsLawfulStream streams → 1 ≤ s → s ≤ length streams → (mark : MarkValue) → mark.stream ≡ s → mark.count ≡ n → mark.upto ≡ m
    → set_at streams (s - 1) (with_mark (stream_at streams s) n m) ≡ all_together streams (streams_of (length streams) (Closed mark ∷ []))
closed_told streams s n m lawful above within mark is same alike =
    (λ i. set_at streams (sym is i - 1) (with_mark (stream_at streams (sym is i)) (sym same i) (sym alike i)))
    ∙ own_closed_told streams lawful mark (omega arith) (omega arith)
