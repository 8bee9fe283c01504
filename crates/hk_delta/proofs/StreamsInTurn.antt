-- Streams that take items in turn are what all the items tell.
use Rattle.std.proofs.Common.{◌≡◌, refl, sym, ap, ◌∙◌, ℕ, ◌+◌, Bool, true, false, List, [], ◌∷◌, ◌++◌, map, length, max, ◌||◌, nat_cmp, All, arith}
use Rattle.std.proofs.lemmas.List.Elements.{All-head, All-tail}
use Rattle.std.specs.List.{range_with_len}
use Rattle.std.specs.Cmp.{nat_cmp_total}
use Rattle.std.specs.FinMap as finmap
use Rattle.std.specs.FinSet as set
use Rattle.hk_log.specs.declared.item.Item.{Item}
use Rattle.hk_model.specs.Replica.Streams.{StreamContent, stream_with, together, all_together, numbers_of, marks_of, stream_of, streams_of}
use Rattle.hk_model.specs.Replica.Lawful.{IsLawfulStream}
use Rattle.hk_model.proofs.Replica.Repeats.{settled_itself, together_unknown}
use Rattle.hk_model.proofs.Replica.Sets.{append_assoc', together-stream_of}
use Rattle.hk_model.proofs.Replica.Streams.{together-settled}

or_assoc : (a b c : Bool) → ((a || b) || c) ≡ (a || (b || c))
or_assoc true b c = refl
or_assoc false b c = refl

union_assoc : (a b c : set.FinSet nat_cmp) → set.union (set.union a b) c ≡ set.union a (set.union b c)
union_assoc a b c = set.same_set nat_cmp_total finmap.nat_cmp-IsAntisymmetric _ _ (λ q.
    set.contains-union nat_cmp_total (set.union a b) c q
    ∙ ap (λ x. x || set.contains c q) (set.contains-union nat_cmp_total a b q)
    ∙ or_assoc (set.contains a q) (set.contains b q) (set.contains c q)
    ∙ sym (set.contains-union nat_cmp_total a (set.union b c) q ∙ ap (λ x. set.contains a q || x) (set.contains-union nat_cmp_total b c q)))

-- a lawful stream with what is told
with_told : (s : StreamContent) → IsLawfulStream s → (b : set.FinSet nat_cmp) (d : ℕ) (ns : List (ℕ × ℕ)) → together s (stream_with b d ns) ≡ stream_with (set.union s.taken b) (max s.closed d) (finmap.entries s.waiting ++ ns)
with_told s l b d ns = ap (λ x. together x (stream_with b d ns)) (sym (settled_itself s l)) ∙ together-settled s.taken b s.closed d (finmap.entries s.waiting) ns

-- a lawful stream with some items, and then with others
one_after : (s : StreamContent) → IsLawfulStream s → (p q : List Item) (k : ℕ) → together (together s (stream_of p k)) (stream_of q k) ≡ together s (stream_of (p ++ q) k)
one_after s l p q k =
    let own : set.FinSet nat_cmp = set.from_list (numbers_of p k) in
    let more : set.FinSet nat_cmp = set.from_list (numbers_of q k) in
    let same : max (max s.closed 0) 0 ≡ max s.closed (max 0 0) = omega arith in
    ap (λ x. together x (stream_of q k)) (with_told s l own 0 (marks_of p k))
    ∙ together-settled (set.union s.taken own) more (max s.closed 0) 0 (finmap.entries s.waiting ++ marks_of p k) (marks_of q k)
    ∙ (λ i. stream_with (union_assoc s.taken own more i) (same i) (append_assoc' (finmap.entries s.waiting) (marks_of p k) (marks_of q k) i))
    ∙ sym (with_told s l (set.union own more) (max 0 0) (marks_of p k ++ marks_of q k))
    ∙ ap (together s) (sym (together-settled own more 0 0 (marks_of p k) (marks_of q k)) ∙ together-stream_of p q k)

each_after : (xs : List StreamContent) → All IsLawfulStream xs → (p q : List Item) (from : ℕ) → all_together (all_together xs (map (stream_of p) (range_with_len from (length xs)))) (map (stream_of q) (range_with_len from (length xs))) ≡ all_together xs (map (stream_of (p ++ q)) (range_with_len from (length xs)))
each_after [] l p q from = refl
each_after (x ∷ xs) l p q from = λ i. one_after x (All-head IsLawfulStream x xs l) p q from i ∷ each_after xs (All-tail IsLawfulStream x xs l) p q (from + 1) i

pub streams_after : (xs : List StreamContent) → All IsLawfulStream xs → (p q : List Item) → all_together (all_together xs (streams_of (length xs) p)) (streams_of (length xs) q) ≡ all_together xs (streams_of (length xs) (p ++ q))
streams_after xs l p q = each_after xs l p q 1

each_none : (xs : List StreamContent) → All IsLawfulStream xs → (from : ℕ) → all_together xs (map (stream_of []) (range_with_len from (length xs))) ≡ xs
each_none [] l from = refl
each_none (x ∷ xs) l from = λ i. together_unknown x (All-head IsLawfulStream x xs l) i ∷ each_none xs (All-tail IsLawfulStream x xs l) (from + 1) i

pub streams_none : (xs : List StreamContent) → All IsLawfulStream xs → all_together xs (streams_of (length xs) []) ≡ xs
streams_none xs l = each_none xs l 1
