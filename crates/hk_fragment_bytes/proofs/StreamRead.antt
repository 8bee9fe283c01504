-- What a stream has taken while its bytes are read, and what is told of it then.
use Rattle.std.proofs.Common.{◌≡◌, refl, sym, ap, subst, ◌∙◌, ℕ, zero, suc, ◌+◌, ◌<◌, ◌≤◌, ◌^◌, Bool, true, false, cond, not, ◌||◌, ◌&&◌, ltb, leb, max, nat_cmp, true≢false, List, [], ◌∷◌, ◌++◌, map, length, Option, Some, None, is_some, T, is_lt, Ordering, Less, arith}
use Rattle.std.specs.List.{list_any}
use Rattle.std.specs.List.Sorted.{IsStrictlySortedBy, IsStrictlyIncreasing}
use Rattle.std.proofs.lemmas.Map.Keys.{sorted_from_strictly_increasing}
use Rattle.std.specs.Map.{keys_of}
use Rattle.std.specs.Cmp.{nat_cmp_total}
use Rattle.std.specs.Ordering.{eq_by_cmp}
use Rattle.std.specs.FinMap as finmap
use Rattle.std.specs.FinMap.{find}
use Rattle.std.specs.FinMap.Entries.{below_all, is_sorted}
use Rattle.std.specs.List.{AllByRecursion}
use Rattle.std.specs.FinSet as set
use Rattle.std.proofs.lemmas.Bool.{lt-leb, le-leb, leb-true}
use Rattle.std.proofs.lemmas.Bool.Decides.{nat_tests}
use Rattle.hk_model.specs.Replica.Streams.{StreamContent, covers, unknown}
use Rattle.hk_model.proofs.Replica.Streams.{later, told, latest, latest-entries, latest-append, tied_counts}
use Rattle.hk_marks.specs.Seen.{up_to, taken_seen, IsExtra}
use Rattle.hk_marks.specs.Steps.{with_number, with_mark, with_prefix, extra_numbers}
use Rattle.hk_marks.proofs.CoveredMarks.{settled-done, mark_waits}
use Rattle.hk_marks.proofs.TakenItems.{later_comm}
use Rattle.hk_marks.proofs.StoredStreams.{contains-up_to, covers_seen}
use Rattle.hk_marks.proofs.Readers.{entries-from_sorted}
use Rattle.hk_marks.specs.Told.{greatest_reached}
use Rattle.hk_marks.proofs.Prefixes.{len-rising, prefix_reached}
use Rattle.hk_answers.specs.Readers.{Chained}
use Rattle.hk_fragment_bytes.specs.Fragments.{rising_numbers, wire_stream_of, ExtraFits, WaitingFits}
use Rattle.hk_fragment_bytes.specs.FragmentSteps.{stream_made, stream_without_marks}
use Rattle.hk_fragment_bytes.proofs.ListsInOrder.{places_rise, chained_more, last_of}

-- ---- what is taken

-- the numbers of a stream with this prefix and these extra numbers
abbrev pub taken_of : ℕ → List ℕ → set.FinSet nat_cmp
taken_of prefix extra = set.union (up_to prefix) (set.from_list extra)

abbrev keyed : List ℕ → set.FinSet nat_cmp
keyed extra = set.from_list extra

extra_above : (prefix : ℕ) (before : Option ℕ) (extra : List ℕ) → Chained (λ n. n) (ExtraFits prefix) before extra → (q : ℕ) → list_any (eq_by_cmp nat_cmp q) extra ≡ true → (prefix + 1 < q) × (q ≤ 2 ^ 62)
extra_above prefix before [] h q e = absurd cc
extra_above prefix before (n ∷ extra) h q e = by (eq_by_cmp nat_cmp q n) refl e (extra_above prefix (Some n) extra h.1 q)
  where
    by : (b : Bool) → eq_by_cmp nat_cmp q n ≡ b → (b || list_any (eq_by_cmp nat_cmp q) extra) ≡ true → (list_any (eq_by_cmp nat_cmp q) extra ≡ true → (prefix + 1 < q) × (q ≤ 2 ^ 62)) → (prefix + 1 < q) × (q ≤ 2 ^ 62)
    by true t f rest = let is : q ≡ n = tied_counts q n t in (omega (arith, is, h.0.1.0), omega (arith, is, h.0.1.1))
    by false t f rest = rest f

is_extra : (prefix : ℕ) (extra : List ℕ) → Chained (λ n. n) (ExtraFits prefix) None extra → IsExtra prefix (keyed extra)
is_extra prefix extra h q e = extra_above prefix None extra h q (sym (set.contains-from_list nat_cmp_total extra q) ∙ e)

-- the prefix is the greatest number up to which all are taken
pub covers_taken : (prefix : ℕ) (extra : List ℕ) → Chained (λ n. n) (ExtraFits prefix) None extra → (n : ℕ) → covers (taken_of prefix extra) n ≡ leb n prefix
unfolding taken_seen
covers_taken prefix extra h n = covers_seen prefix (keyed extra) (is_extra prefix extra h) n

-- ---- steps

none_waits : (t : set.FinSet nat_cmp) (q m : ℕ) → finmap.get (finmap.from_entries {R = nat_cmp} []) q ≡ Some m → covers t q ≡ false
none_waits t q m e = absurd (cc (finmap.get-empty {X = ℕ} nat_cmp q))

-- one extra number more
pub extra_more : (prefix closed : ℕ) (extra : List ℕ) (n : ℕ)
    → with_number (stream_made (record { prefix = prefix; closed = closed; extra = extra; waiting = [] })) n ≡ stream_made (record { prefix = prefix; closed = closed; extra = extra ++ n ∷ []; waiting = [] })
extra_more prefix closed extra n =
    settled-done (set.insert (taken_of prefix extra) n) closed (finmap.from_entries []) (none_waits (set.insert (taken_of prefix extra) n))
    ∙ ap (λ (t : set.FinSet nat_cmp). record { taken = t; closed = closed; waiting = finmap.from_entries {R = nat_cmp} [] }) same
  where
    or_swap : (a b c : Bool) → (a || (b || c)) ≡ (b || (a || c))
    or_swap true true c = refl
    or_swap true false c = refl
    or_swap false b c = refl

    same : set.insert (taken_of prefix extra) n ≡ taken_of prefix (extra ++ n ∷ [])
    same = set.same_set nat_cmp_total finmap.nat_cmp-IsAntisymmetric _ _ (λ q.
        set.contains-insert nat_cmp_total (taken_of prefix extra) n q
        ∙ ap (λ b. eq_by_cmp nat_cmp q n || b) (set.contains-union nat_cmp_total (up_to prefix) (set.from_list extra) q)
        ∙ or_swap (eq_by_cmp nat_cmp q n) (set.contains (up_to prefix) q) (set.contains (set.from_list extra) q)
        ∙ ap (λ b. set.contains (up_to prefix) q || b) (sym (set.contains-insert nat_cmp_total (set.from_list extra) n q) ∙ ap (λ s. set.contains s q) (sym (set.from_list_push nat_cmp_total finmap.nat_cmp-IsAntisymmetric extra n)))
        ∙ sym (set.contains-union nat_cmp_total (up_to prefix) (set.from_list (extra ++ n ∷ [])) q))

-- the prefix and the closed time of a stream of which nothing is known
pub raised_unknown : (prefix closed : ℕ) → with_prefix unknown prefix closed ≡ stream_without_marks prefix closed
raised_unknown prefix closed =
    settled-done (set.union set.empty (up_to prefix)) (max unknown.closed closed) unknown.waiting (λ q m e. absurd (cc (nothing_waits q)))
    ∙ (λ i. record { taken = taken i; closed = time i; waiting = waits i })
  where
    same_both : (b : Bool) → cond {A = Option ℕ} b None None ≡ None
    same_both true = refl
    same_both false = refl

    nothing_waits : (q : ℕ) → finmap.get unknown.waiting q ≡ None
    nothing_waits q =
        finmap.get-retain_keys (finmap.empty {X = ℕ}) (λ n. not (covers set.empty n)) q (λ x t. ap (λ n. not (covers set.empty n)) (sym (finmap.nat_cmp-IsAntisymmetric q x t)))
        ∙ ap (λ o. cond (not (covers set.empty q)) o None) (finmap.get-empty nat_cmp q)
        ∙ same_both (not (covers set.empty q))

    or_none : (b : Bool) → (false || b) ≡ (b || false)
    or_none true = refl
    or_none false = refl

    taken : set.union set.empty (up_to prefix) ≡ taken_of prefix []
    taken = set.same_set nat_cmp_total finmap.nat_cmp-IsAntisymmetric _ _ (λ q.
        set.contains-union nat_cmp_total set.empty (up_to prefix) q
        ∙ ap (λ b. b || set.contains (up_to prefix) q) (set.contains-empty nat_cmp q)
        ∙ or_none (set.contains (up_to prefix) q)
        ∙ ap (λ b. set.contains (up_to prefix) q || b) (sym (set.contains-empty nat_cmp q))
        ∙ sym (set.contains-union nat_cmp_total (up_to prefix) (set.from_list []) q))

    time : max unknown.closed closed ≡ closed
    time = omega arith

    waits : unknown.waiting ≡ finmap.from_entries []
    waits = finmap.same_map nat_cmp_total finmap.nat_cmp-IsAntisymmetric _ _ (λ q. nothing_waits q ∙ sym (finmap.get-empty nat_cmp q))

-- ---- waiting marks

waits_above : (prefix : ℕ) (before : Option ℕ) (waiting : List (ℕ × ℕ)) → Chained (λ m. m.0) (WaitingFits prefix) before waiting → (q x : ℕ) → find nat_cmp q waiting ≡ Some x → prefix < q
waits_above prefix before [] h q x e = absurd cc
waits_above prefix before (m ∷ waiting) h q x e = by (eq_by_cmp nat_cmp q m.0) refl e (waits_above prefix (Some m.0) waiting h.1 q x)
  where
    by : (b : Bool) → eq_by_cmp nat_cmp q m.0 ≡ b → cond b (Some m.1) (find nat_cmp q waiting) ≡ Some x → (find nat_cmp q waiting ≡ Some x → prefix < q) → prefix < q
    by true t f rest = let is : q ≡ m.0 = tied_counts q m.0 t in omega (arith, is, h.0.1.0)
    by false t f rest = rest f

counts_rise : (prefix : ℕ) (waiting : List (ℕ × ℕ)) → Chained (λ m. m.0) (WaitingFits prefix) None waiting → IsStrictlySortedBy nat_cmp (keys_of waiting)
counts_rise prefix waiting h = places_rise (λ (m : ℕ × ℕ). m.0) (WaitingFits prefix) (λ before m f. f.0) waiting h

-- what is found is what the marks tell
found : (prefix : ℕ) (waiting : List (ℕ × ℕ)) → Chained (λ m. m.0) (WaitingFits prefix) None waiting → (q : ℕ) → finmap.get (finmap.from_entries {R = nat_cmp} waiting) q ≡ latest waiting q
found prefix waiting h q =
    sym (latest-entries (finmap.from_entries waiting) q) ∙ ap (λ l. latest l q) (entries-from_sorted waiting (counts_rise prefix waiting h))

later_none : (x : Option ℕ) → later x None ≡ x
later_none None = refl
later_none (Some a) = refl

-- one waiting mark more
pub waits_more : (prefix : ℕ) (t : set.FinSet nat_cmp) (closed : ℕ) (waiting : List (ℕ × ℕ)) (k m : ℕ) → ((n : ℕ) → covers t n ≡ leb n prefix) → Chained (λ m. m.0) (WaitingFits prefix) None waiting → WaitingFits prefix (last_of (λ m. m.0) None waiting) (k, m)
    → with_mark (record { taken = t; closed = closed; waiting = finmap.from_entries waiting }) k m ≡ record { taken = t; closed = closed; waiting = finmap.from_entries (waiting ++ (k, m) ∷ []) }
waits_more prefix t closed waiting k m law h fit =
    sym (mark_waits t closed (finmap.from_entries waiting) (finmap.from_entries (waiting ++ (k, m) ∷ [])) k m (uncovered k fit.1.0)
    (λ q x e. uncovered q (waits_above prefix None waiting h q x (sym (finmap.get-from_entries nat_cmp_total waiting q) ∙ e)))
    (λ q.
    found prefix (waiting ++ (k, m) ∷ []) (chained_more (λ m. m.0) (WaitingFits prefix) None waiting (k, m) h fit) q
    ∙ latest-append waiting ((k, m) ∷ []) q
    ∙ ap (later (latest waiting q)) (later_none (told (k, m) q))
    ∙ later_comm (latest waiting q) (told (k, m) q)
    ∙ ap (later (told (k, m) q)) (sym (found prefix waiting h q))))
  where
    uncovered : (q : ℕ) → prefix < q → covers t q ≡ false
    uncovered q lt = law q ∙ lt-leb q prefix lt

-- ---- what is told

-- numbers paired with themselves
abbrev pub paired : List ℕ → List (ℕ × ℕ)
paired ks = map (λ n. (n, n)) ks

pub find_paired : (q : ℕ) (ks : List ℕ) → find nat_cmp q (paired ks) ≡ cond (list_any (eq_by_cmp nat_cmp q) ks) (Some q) None
find_paired q [] = refl
find_paired q (k ∷ ks) = by (eq_by_cmp nat_cmp q k) refl (find_paired q ks)
  where
    by : (b : Bool) → eq_by_cmp nat_cmp q k ≡ b → find nat_cmp q (paired ks) ≡ cond (list_any (eq_by_cmp nat_cmp q) ks) (Some q) None → cond b (Some k) (find nat_cmp q (paired ks)) ≡ cond (b || list_any (eq_by_cmp nat_cmp q) ks) (Some q) None
    by true t rest = ap (λ n. Some n) (sym (tied_counts q k t))
    by false t rest = rest

keys_paired : (ks : List ℕ) → keys_of (paired ks) ≡ ks
keys_paired [] = refl
keys_paired (k ∷ ks) = ap (λ l. k ∷ l) (keys_paired ks)

-- the numbers of a set in rising order
pub rising_items : (ks : List ℕ) (s : set.FinSet nat_cmp) → IsStrictlySortedBy nat_cmp ks → set.from_list ks ≡ s → rising_numbers (set.items s) ≡ ks
rising_items ks s sorted is =
    ap finmap.keys same
    ∙ ap keys_of (entries-from_sorted (paired ks) (subst (IsStrictlySortedBy nat_cmp) (sym (keys_paired ks)) sorted))
    ∙ keys_paired ks
  where
    members : (q : ℕ) → list_any (eq_by_cmp nat_cmp q) (set.items s) ≡ list_any (eq_by_cmp nat_cmp q) ks
    members q = sym (set.contains-items s q) ∙ ap (λ (t : set.FinSet nat_cmp). set.contains t q) (sym is) ∙ set.contains-from_list nat_cmp_total ks q

    same : finmap.from_entries {R = nat_cmp} (paired (set.items s)) ≡ finmap.from_entries (paired ks)
    same = finmap.same_map nat_cmp_total finmap.nat_cmp-IsAntisymmetric _ _ (λ q.
        finmap.get-from_entries nat_cmp_total (paired (set.items s)) q
        ∙ find_paired q (set.items s)
        ∙ ap (λ b. cond b (Some q) None) (members q)
        ∙ sym (find_paired q ks)
        ∙ sym (finmap.get-from_entries nat_cmp_total (paired ks) q))

-- the extra numbers of a stream are those above its prefix
extras_are : (prefix : ℕ) (extra : List ℕ) (s : StreamContent) → s.taken ≡ taken_of prefix extra → Chained (λ n. n) (ExtraFits prefix) None extra → set.from_list extra ≡ extra_numbers s
extras_are prefix extra s is h = set.same_set nat_cmp_total finmap.nat_cmp-IsAntisymmetric _ _ (λ q.
    set.contains-from_list nat_cmp_total extra q
    ∙ kept q (list_any (eq_by_cmp nat_cmp q) extra) (λ e. (extra_above prefix None extra h q e).0)
    ∙ (λ i. sym (holds q) i && not (sym (law q) i))
    ∙ sym (set.contains-retain s.taken (λ n. not (covers s.taken n)) q (λ x t. ap (λ n. not (covers s.taken n)) (sym (finmap.nat_cmp-IsAntisymmetric q x t)))))
  where
    kept : (q : ℕ) (x : Bool) → (x ≡ true → prefix + 1 < q) → x ≡ (((ltb 0 q && leb q prefix) || x) && not (leb q prefix))
    kept q true h = let l = h refl in grind (arith, nat_tests)
    kept q false h = grind (arith, nat_tests)

    holds : (q : ℕ) → set.contains s.taken q ≡ ((ltb 0 q && leb q prefix) || list_any (eq_by_cmp nat_cmp q) extra)
    holds q =
        ap (λ (t : set.FinSet nat_cmp). set.contains t q) is
        ∙ set.contains-union nat_cmp_total (up_to prefix) (set.from_list extra) q
        ∙ (λ i. contains-up_to prefix q i || set.contains-from_list nat_cmp_total extra q i)

    law : (q : ℕ) → covers s.taken q ≡ leb q prefix
    law q = ap (λ (t : set.FinSet nat_cmp). covers t q) is ∙ covers_taken prefix extra h q

map_same : (xs : List ℕ) → map (λ (n : ℕ). n) xs ≡ xs
map_same [] = refl
map_same (x ∷ xs) = ap (λ l. x ∷ l) (map_same xs)

-- what is told of a stream is what it was made of
pub told_back : (s : StreamContent) (prefix : ℕ) (extra : List ℕ) (waiting : List (ℕ × ℕ)) → s.taken ≡ taken_of prefix extra → s.waiting ≡ finmap.from_entries waiting → Chained (λ n. n) (ExtraFits prefix) None extra → Chained (λ m. m.0) (WaitingFits prefix) None waiting
    → wire_stream_of s ≡ record { prefix = prefix; closed = s.closed; extra = extra; waiting = waiting }
told_back s prefix extra waiting is_taken is_waiting h k =
    let p : greatest_reached s.taken (set.items s.taken) ≡ prefix = prefix_reached s.taken prefix (λ n. ap (λ (t : set.FinSet nat_cmp). covers t n) is_taken ∙ covers_taken prefix extra h n) in
    let rise : IsStrictlySortedBy nat_cmp extra = subst (IsStrictlySortedBy nat_cmp) (map_same extra) (places_rise (λ (n : ℕ). n) (ExtraFits prefix) (λ before n f. f.0) extra h) in
    let e : rising_numbers (set.items (extra_numbers s)) ≡ extra = rising_items extra (extra_numbers s) rise (extras_are prefix extra s is_taken h) in
    let w : finmap.entries s.waiting ≡ waiting = ap finmap.entries is_waiting ∙ entries-from_sorted waiting (counts_rise prefix waiting k) in
    λ i. record { prefix = p i; closed = s.closed; extra = e i; waiting = w i }

-- ---- what a stream's readers give

pub extras_listed : (xs : List ℕ) (s : StreamContent) → IsStrictlyIncreasing xs → set.from_list xs ≡ extra_numbers s → (wire_stream_of s).extra ≡ xs
extras_listed xs s rise is = rising_items xs (extra_numbers s) (sorted_from_strictly_increasing xs rise) is

-- ---- how many they are

is_some-cond : (b : Bool) (q : ℕ) → is_some (cond b (Some q) None) ≡ b
is_some-cond true q = refl
is_some-cond false q = refl

pub rising_has : (ks : List ℕ) (q : ℕ) → list_any (eq_by_cmp nat_cmp q) (rising_numbers ks) ≡ list_any (eq_by_cmp nat_cmp q) ks
rising_has ks q =
    sym (finmap.contains_key-keys (finmap.from_entries {R = nat_cmp} (paired ks)) q)
    ∙ ap is_some (finmap.get-from_entries nat_cmp_total (paired ks) q ∙ find_paired q ks)
    ∙ is_some-cond (list_any (eq_by_cmp nat_cmp q) ks) q

less : {o : Ordering} → T (is_lt o) → o ≡ Less
less h = grind (arith, nat_tests)

both_T : (a b : Bool) → T (a && b) → T a × T b
both_T true b h = (tt, h)
both_T false b h = absurd h

below_keys : (k : ℕ) (es : List (ℕ × ℕ)) → T (below_all nat_cmp k es) → AllByRecursion (λ y. nat_cmp k y ≡ Less) (keys_of es)
below_keys k [] h = tt
below_keys k (e ∷ es) h = let p = both_T (is_lt (nat_cmp k e.0)) (below_all nat_cmp k es) h in (less p.0, below_keys k es p.1)

sorted_keys : (es : List (ℕ × ℕ)) → T (is_sorted nat_cmp es) → IsStrictlySortedBy nat_cmp (keys_of es)
unfolding IsStrictlySortedBy
sorted_keys [] h = tt
sorted_keys (e ∷ es) h = let p = both_T (below_all nat_cmp e.0 es) (is_sorted nat_cmp es) h in (below_keys e.0 es p.0, sorted_keys es p.1)

pub extras_counted : (s : StreamContent) → length (wire_stream_of s).extra ≡ set.len (extra_numbers s)
extras_counted s =
    let ks = rising_numbers (set.items (extra_numbers s)) in
    let by_number = finmap.from_entries {R = nat_cmp} (paired (set.items (extra_numbers s))) in
    let is : set.from_list ks ≡ extra_numbers s = set.same_set nat_cmp_total finmap.nat_cmp-IsAntisymmetric _ _ (λ q.
    set.contains-from_list nat_cmp_total ks q ∙ rising_has (set.items (extra_numbers s)) q ∙ sym (set.contains-items (extra_numbers s) q)) in
    sym (len-rising ks (sorted_keys (finmap.entries by_number) (finmap.entries_sorted by_number))) ∙ ap set.len is
