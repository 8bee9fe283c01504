-- Two views of a stream taken together.
use Rattle.std.proofs.Common.{◌≡◌, refl, sym, ap, subst, ◌∙◌, ℕ, ◌<◌, ◌≤◌, ◌^◌, Bool, true, false, cond, Option, Some, None, is_some, List, [], ◌∷◌, ◌++◌, length, take, drop, All, ◌||◌, ◌&&◌, ltb, leb, nat_cmp, arith, max, true≢false, append-nil}
use Rattle.std.proofs.Math.Seq.{take-append_seam}
use Rattle.std.proofs.lemmas.Bool.Decides.{nat_tests}
use Rattle.std.proofs.lemmas.List.Elements.{All-nil, All-cons}
use Rattle.std.specs.Bool.{OnTrue}
use Rattle.std.specs.List.{slice_get}
use Rattle.std.specs.Ordering.{eq_by_cmp}
use Rattle.std.specs.Cmp.{nat_cmp_total}
use Rattle.std.specs.BTreeMap.{BTreeMap}
use Rattle.std.specs.BTreeMap as tree
use Rattle.std.specs.FinMap as finmap
use Rattle.std.specs.FinSet as set
use Rattle.hk_model.proofs.Replica.Streams.{later, told, latest, latest-append, latest-entries, tied_counts}
use Rattle.hk_model.specs.Replica.Streams.{StreamContent, covers, greatest_covered, stream_with, together, all_together}
use Rattle.hk_model.proofs.Replica.Lawful.{settled_lawful}
use Rattle.hk_model.specs.Replica.Lawful.{IsLawfulStream}
use Rattle.hk_marks.proofs.CoveredMarks.{settled_same}
use Rattle.hk_marks.proofs.TakenItems.{settled_alike, later_comm}
use Rattle.hk_marks.proofs.StoredStreams.{contains-taken_seen, get-waiting_seen}
use Rattle.hk_marks.proofs.Readers.{entries-waiting_seen}
use Rattle.hk_marks.proofs.Limits.{all_numbered}
use Rattle.hk_marks.specs.Seen.{taken_seen, waiting_seen, IsExtra, AreStreams, stream_seen}
use Rattle.hk_marks.specs.Parts.{AddsMark, RaisesMarks, has_number}

-- ---- counts that wait with time 0 tell nothing that is not told

widened_mark : (m : Bool) (x y : Option ℕ) → (m ≡ true → x ≡ None) → (m ≡ true → is_some y ≡ true) → later (cond m (Some 0) x) y ≡ later x y
widened_mark true x None none some = absurd (true≢false (sym (some refl)))
widened_mark true x (Some a) none some = let e : max 0 a ≡ a = omega arith in ap Some e ∙ ap (λ z. later z (Some a)) (sym (none refl))
widened_mark false x y none some = refl

-- marks beside others, where some of their counts waited with time 0 before
pub counts_widened : (t : set.FinSet nat_cmp) (c : ℕ) (w room marks : BTreeMap ℕ ℕ) (cs : List ℕ)
    → ((q : ℕ) → tree.get nat_cmp room q ≡ cond (has_number cs q) (Some 0) (tree.get nat_cmp w q))
    → ((q : ℕ) → has_number cs q ≡ true → (tree.get nat_cmp w q ≡ None) × (is_some (tree.get nat_cmp marks q) ≡ true))
    → stream_with t c (finmap.entries (waiting_seen room) ++ finmap.entries (waiting_seen marks)) ≡ stream_with t c (finmap.entries (waiting_seen w) ++ finmap.entries (waiting_seen marks))
counts_widened t c w room marks cs wide apart = settled_alike t c _ _ (λ q.
    latest-append (finmap.entries (waiting_seen room)) (finmap.entries (waiting_seen marks)) q
    ∙ (λ i. later ((latest-entries (waiting_seen room) q ∙ get-waiting_seen room q ∙ wide q) i) ((latest-entries (waiting_seen marks) q ∙ get-waiting_seen marks q) i))
    ∙ widened_mark (has_number cs q) (tree.get nat_cmp w q) (tree.get nat_cmp marks q) (λ e. (apart q e).0) (λ e. (apart q e).1)
    ∙ sym (latest-append (finmap.entries (waiting_seen w)) (finmap.entries (waiting_seen marks)) q ∙ (λ i. later ((latest-entries (waiting_seen w) q ∙ get-waiting_seen w q) i) ((latest-entries (waiting_seen marks) q ∙ get-waiting_seen marks q) i))))

-- ---- the marks of another view, one by one

greatest-append : (t : set.FinSet nat_cmp) (ms ns : List (ℕ × ℕ)) → greatest_covered t (ms ++ ns) ≡ max (greatest_covered t ms) (greatest_covered t ns)
greatest-append t [] ns = omega arith
greatest-append t (m ∷ ms) ns =
    let rest = greatest-append t ms ns in
    elim (covers t m.0) as (λ b. cond b (max m.1 (greatest_covered t (ms ++ ns))) (greatest_covered t (ms ++ ns)) ≡ max (cond b (max m.1 (greatest_covered t ms)) (greatest_covered t ms)) (greatest_covered t ns)) [
      | true ↦ omega arith
      | false ↦ rest
    ]

later_assoc : (x y z : Option ℕ) → later (later x y) z ≡ later x (later y z)
later_assoc None y z = refl
later_assoc (Some a) None z = refl
later_assoc (Some a) (Some b) None = refl
later_assoc (Some a) (Some b) (Some c) = let e : max (max a b) c ≡ max a (max b c) = omega arith in ap Some e

-- a mark that is covered closes
pub raised_closed : (t : set.FinSet nat_cmp) (c d k m : ℕ) (ws rest : List (ℕ × ℕ)) → covers t k ≡ true → d ≡ max c m → stream_with t d (ws ++ rest) ≡ stream_with t c (ws ++ (k, m) ∷ rest)
raised_closed t c d k m ws rest cov is =
    settled_same t d c (ws ++ rest) (ws ++ (k, m) ∷ rest) closed waits
  where
    head : greatest_covered t ((k, m) ∷ rest) ≡ max m (greatest_covered t rest)
    head = ap (λ b. cond b (max m (greatest_covered t rest)) (greatest_covered t rest)) cov

    closed : max d (greatest_covered t (ws ++ rest)) ≡ max c (greatest_covered t (ws ++ (k, m) ∷ rest))
    closed =
        let a = greatest-append t ws rest in
        let b = greatest-append t ws ((k, m) ∷ rest) in
        let h = head in
        omega (arith, is)

    waits : (q : ℕ) → covers t q ≡ false → latest (ws ++ rest) q ≡ latest (ws ++ (k, m) ∷ rest) q
    waits q uncovered =
        latest-append ws rest q
        ∙ ap (λ b. later (latest ws q) (later (cond b (Some m) None) (latest rest q))) (sym apart)
        ∙ sym (latest-append ws ((k, m) ∷ rest) q)
      where
        apart : eq_by_cmp nat_cmp q k ≡ false
        apart = elim (eq_by_cmp nat_cmp q k) as (λ b. eq_by_cmp nat_cmp q k ≡ b → b ≡ false) [ true ↦ λ e. absurd (true≢false (sym cov ∙ ap (covers t) (sym (tied_counts q k e)) ∙ uncovered)) | false ↦ λ e. refl ] refl

-- a mark joins the one that waits for the same count
pub raised_waiting : (t : set.FinSet nat_cmp) (c k m : ℕ) (w v : finmap.FinMap nat_cmp ℕ) (rest : List (ℕ × ℕ)) → ((q : ℕ) → finmap.get v q ≡ later (told (k, m) q) (finmap.get w q))
    → stream_with t c (finmap.entries v ++ rest) ≡ stream_with t c (finmap.entries w ++ (k, m) ∷ rest)
raised_waiting t c k m w v rest is = settled_alike t c (finmap.entries v ++ rest) (finmap.entries w ++ (k, m) ∷ rest) (λ q.
    latest-append (finmap.entries v) rest q
    ∙ ap (λ x. later x (latest rest q)) (latest-entries v q ∙ is q ∙ later_comm (told (k, m) q) (finmap.get w q))
    ∙ later_assoc (finmap.get w q) (told (k, m) q) (latest rest q)
    ∙ sym (latest-append (finmap.entries w) ((k, m) ∷ rest) q ∙ ap (λ x. later x (later (told (k, m) q) (latest rest q))) (latest-entries w q)))

-- a mark that joins one that waits leaves the counts as they are
pub same_counts : (k m : ℕ) (w v : BTreeMap ℕ ℕ) → is_some (tree.get nat_cmp w k) ≡ true → ((q : ℕ) → tree.get nat_cmp v q ≡ later (told (k, m) q) (tree.get nat_cmp w q)) → (q : ℕ) → is_some (tree.get nat_cmp v q) ≡ is_some (tree.get nat_cmp w q)
same_counts k m w v there is q =
    ap is_some (is q) ∙ elim (eq_by_cmp nat_cmp q k) as (λ b. eq_by_cmp nat_cmp q k ≡ b → is_some (later (cond b (Some m) None) (tree.get nat_cmp w q)) ≡ is_some (tree.get nat_cmp w q)) [
      | true ↦ λ e. some_later (tree.get nat_cmp w q) (ap (λ x. is_some (tree.get nat_cmp w x)) (tied_counts q k e) ∙ there)
      | false ↦ λ e. refl
    ] refl
  where
    some_later : (x : Option ℕ) → is_some x ≡ true → is_some (later (Some m) x) ≡ is_some x
    some_later None e = absurd (true≢false (sym e))
    some_later (Some a) e = refl

pub of_true : {P : Type 0} (b : Bool) → b ≡ true → OnTrue b P → P
of_true true e p = p
of_true false e p = absurd (true≢false (sym e))

pub covered : (t : set.FinSet nat_cmp) (p k : ℕ) → ((n : ℕ) → covers t n ≡ leb n p) → k ≤ p → covers t k ≡ true
covered t p k law below = let e : leb k p ≡ true = grind (arith, nat_tests) in law k ∙ e

-- one mark alone that is covered closes
pub one_closed : (prefix before after k m : ℕ) (w : BTreeMap ℕ ℕ) → k ≤ prefix → after ≡ max before m → RaisesMarks prefix before after w w ((k, m) ∷ [])
one_closed prefix before after k m w below is t law =
    ap (stream_with t after) (sym (append-nil (finmap.entries (waiting_seen w))))
    ∙ raised_closed t before after k m (finmap.entries (waiting_seen w)) [] (covered t prefix k law below) is

-- one mark alone joins the one that waits for the same count
pub one_raised : (prefix before k m : ℕ) (w v : BTreeMap ℕ ℕ) → AddsMark k m w v → RaisesMarks prefix before before w v ((k, m) ∷ [])
one_raised prefix before k m w v adds t law =
    ap (stream_with t before) (sym (append-nil (finmap.entries (waiting_seen v))))
    ∙ raised_waiting t before k m (waiting_seen w) (waiting_seen v) [] (λ q. get-waiting_seen v q ∙ adds q ∙ ap (later (told (k, m) q)) (sym (get-waiting_seen w q)))

same_mark : (x y : ℕ × ℕ) → ◌≡◌ (Some x) (Some y) → x ≡ y
same_mark x y e = cc

one_alone : (marks : List (ℕ × ℕ)) (x : ℕ × ℕ) → length marks ≡ 1 → slice_get marks 0 ≡ Some x → marks ≡ x ∷ []
one_alone [] x one first = absurd (omega arith)
one_alone (y ∷ []) x one first = ap (λ (z : ℕ × ℕ). z ∷ []) (same_mark y x first)
one_alone (y ∷ z ∷ marks) x one first = absurd (omega arith)

-- where there is one mark, taking it is taking all
pub only_mark : (prefix before after : ℕ) (w v : BTreeMap ℕ ℕ) (marks : List (ℕ × ℕ)) (k m : ℕ) → length marks ≡ 1 → slice_get marks 0 ≡ Some (k, m) → RaisesMarks prefix before after w v ((k, m) ∷ []) → RaisesMarks prefix before after w v marks
only_mark prefix before after w v marks k m one first raises t law =
    raises t law ∙ ap (λ (ms : List (ℕ × ℕ)). stream_with t before (finmap.entries (waiting_seen w) ++ ms)) (sym (one_alone marks (k, m) one first))

-- ---- the numbers of another view

contains-both : (extra more both : set.FinSet nat_cmp) → both ≡ set.union extra more → (q : ℕ) → set.contains both q ≡ (set.contains extra q || set.contains more q)
contains-both extra more both is q = ap (λ (s : set.FinSet nat_cmp). set.contains s q) is ∙ set.contains-union nat_cmp_total extra more q

pub numbers_joined : (p r m : ℕ) (extra more both : set.FinSet nat_cmp) → m ≡ max p r → both ≡ set.union extra more → taken_seen m both ≡ set.union (taken_seen p extra) (taken_seen r more)
numbers_joined p r m extra more both greater is = set.same_set nat_cmp_total finmap.nat_cmp-IsAntisymmetric _ _ (λ q.
    contains-taken_seen m both q
    ∙ ap (λ b. (ltb 0 q && leb q m) || b) (contains-both extra more both is q)
    ∙ regroup q (set.contains extra q) (set.contains more q)
    ∙ (λ i. sym (contains-taken_seen p extra q) i || sym (contains-taken_seen r more q) i)
    ∙ sym (set.contains-union nat_cmp_total (taken_seen p extra) (taken_seen r more) q))
  where
    regroup : (q : ℕ) (x y : Bool) → ((ltb 0 q && leb q m) || (x || y)) ≡ (((ltb 0 q && leb q p) || x) || ((ltb 0 q && leb q r) || y))
    regroup q true y = grind (arith, nat_tests)
    regroup q false true = grind (arith, nat_tests)
    regroup q false false = grind (arith, nat_tests)

pub both_within : (p r : ℕ) (extra more both : set.FinSet nat_cmp) → IsExtra p extra → IsExtra r more → both ≡ set.union extra more → (q : ℕ) → set.contains both q ≡ true → (0 < q) × (q ≤ 2 ^ 62)
both_within p r extra more both ok right is q e = either (set.contains extra q) refl (sym (contains-both extra more both is q) ∙ e)
  where
    either : (x : Bool) → set.contains extra q ≡ x → (x || set.contains more q) ≡ true → (0 < q) × (q ≤ 2 ^ 62)
    either true h f = let l = ok q h in (omega arith, l.1)
    either false h f = let l = right q f in (omega arith, l.1)

-- ---- what is settled in the end

pub settled_together : (p : ℕ) (extra : set.FinSet nat_cmp) (c : ℕ) (waiting room : BTreeMap ℕ ℕ) (cs : List ℕ) (r : ℕ) (more : set.FinSet nat_cmp) (d : ℕ) (marks : BTreeMap ℕ ℕ)
    → ((q : ℕ) → tree.get nat_cmp room q ≡ cond (has_number cs q) (Some 0) (tree.get nat_cmp waiting q))
    → ((q : ℕ) → has_number cs q ≡ true → (tree.get nat_cmp waiting q ≡ None) × (is_some (tree.get nat_cmp marks q) ≡ true))
    → (n : ℕ) (grown : set.FinSet nat_cmp) (e : ℕ) (left : BTreeMap ℕ ℕ) (closed raised : ℕ) (raised_marks : BTreeMap ℕ ℕ)
    → taken_seen n grown ≡ set.union (taken_seen p extra) (taken_seen r more)
    → closed ≡ max c d
    → tree.IsOrdered nat_cmp marks
    → stream_with (taken_seen n grown) raised (finmap.entries (waiting_seen raised_marks)) ≡ stream_with (taken_seen n grown) closed (finmap.entries (waiting_seen room) ++ marks.entries)
    → stream_with (taken_seen n grown) raised (finmap.entries (waiting_seen raised_marks)) ≡ record { taken = taken_seen n grown; closed = e; waiting = waiting_seen left }
    → stream_seen n grown e left ≡ together (stream_seen p extra c waiting) (stream_seen r more d marks)
settled_together p extra c waiting room cs r more d marks wide apart n grown e left closed raised raised_marks taken is rising raises settles =
    sym settles ∙ raises
    ∙ (λ i. stream_with (taken i) (is i) (finmap.entries (waiting_seen room) ++ sym (entries-waiting_seen marks rising) i))
    ∙ counts_widened (set.union (taken_seen p extra) (taken_seen r more)) (max c d) waiting room marks cs wide apart

-- ---- the joined streams are streams

length-all_together : (xs ys : List StreamContent) → length xs ≡ length ys → length (all_together xs ys) ≡ length xs
length-all_together [] ys same = refl
length-all_together (x ∷ xs) [] same = absurd (omega arith)
length-all_together (x ∷ xs) (y ∷ ys) same = let rest = length-all_together xs ys (omega arith) in omega arith

all_lawful : (xs ys : List StreamContent) → All IsLawfulStream (all_together xs ys)
all_lawful [] ys = All-nil IsLawfulStream
all_lawful (x ∷ xs) [] = All-nil IsLawfulStream
all_lawful (x ∷ xs) (y ∷ ys) =
    All-cons IsLawfulStream (together x y) (all_together xs ys) (settled_lawful (set.union x.taken y.taken) (max x.closed y.closed) (finmap.entries x.waiting ++ finmap.entries y.waiting)) (all_lawful xs ys)

pub joined_kept : (n : ℕ) (xs ys zs : List StreamContent) → AreStreams xs → AreStreams ys → length xs ≡ length ys → zs ≡ all_together xs ys → n ≡ length xs → AreStreams (take n (zs ++ drop (length zs) xs))
joined_kept n xs ys zs are others same is count =
    let joined = length-all_together xs ys same in
    let long : n ≡ length zs = count ∙ sym joined ∙ ap length (sym is) in
    subst AreStreams (sym (ap (λ k. take k (zs ++ drop (length zs) xs)) long ∙ take-append_seam zs (drop (length zs) xs) ∙ is))
    (record {
      least = omega (arith, are.least);
      most = omega (arith, are.most);
      lawful = all_lawful xs ys;
      numbered = all_numbered xs ys are.numbered others.numbered;
    })
