-- What is told of a fragment fits its fields.
use Rattle.std.proofs.Common.{◌≡◌, refl, sym, ap, ◌∙◌, ℕ, zero, suc, ◌+◌, ◌<◌, ◌≤◌, ◌^◌, Bool, true, false, cond, not, T, ◌&&◌, ◌||◌, ltb, leb, min, nat_cmp, nat_lt, is_lt, is_eq, is_some, true≢false, List, [], ◌∷◌, map, length, Option, Some, None, arith, All}
use Rattle.std.proofs.lemmas.Bool.{ltb-true, leb-false, leb-true, not-true}
use Rattle.std.proofs.lemmas.Bool.Decides.{nat_tests}
use Rattle.std.proofs.lemmas.List.Elements.{All-head, All-tail}
use Rattle.std.specs.List.{AllByRecursion}
use Rattle.std.specs.Cmp.{nat_cmp_total, tied_itself}
use Rattle.std.specs.Ordering.{eq_by_cmp}
use Rattle.std.specs.FinMap as finmap
use Rattle.std.specs.FinMap.{find, is_sorted}
use Rattle.std.specs.FinMap.Entries.{below_all}
use Rattle.std.specs.FinSet as set
use Rattle.hk_types.specs.Values.{RowValue}
use Rattle.hk_types.specs.declared.version_key.VersionKey.{VersionKey}
use Rattle.hk_types.specs.declared.faults.FormFault.{FormFault}
use Rattle.hk_types.specs.declared.faults.FormFault.TheVariants.{BadNumber, BadOrder}
use Rattle.hk_log.specs.Versions.{is_known}
use Rattle.hk_model.specs.Replica.Streams.{StreamContent, covers}
use Rattle.hk_model.specs.Replica.Content.{least_closed}
use Rattle.hk_model.specs.Replica.Lawful.{IsLawfulStream, IsLawfulFragment}
use Rattle.hk_model.specs.Replica.Fragments.{FragmentValue}
use Rattle.hk_model.proofs.Replica.Streams.{tied_counts}
use Rattle.hk_model.proofs.Replica.Visible.{T_both}
use Rattle.hk_marks.specs.Seen.{IsNumbered}
use Rattle.hk_marks.specs.Steps.{extra_numbers}
use Rattle.hk_fragment.specs.Parts.{Known, versions_listed, follows, is_valid_row, is_valid_end, is_valid_fact, facts_fault}
use Rattle.hk_answers.specs.Readers.{Chained, DiedFits}
use Rattle.hk_answers.specs.Answers.{PresentFits}
use Rattle.hk_marks.specs.Told.{prefix_of}
use Rattle.hk_fragment_bytes.specs.Fragments.{wire_stream_of, wire_fragment_of, number_follows, least_closed_of, ExtraFits, WaitingFits, StreamFits, FactFits, PartsFit, KnownFits, FragmentFits}
use Rattle.hk_fragment_bytes.proofs.OneWireFragment.{greatest_covered_too, reached_law, extra_told}

first : (a b : Bool) → (a && b) ≡ true → a ≡ true
first true b e = refl
first false b e = e

second : (a b : Bool) → (a && b) ≡ true → b ≡ true
second true b e = e
second false b e = absurd cc

-- ---- lists in rising order

-- the first of a list comes after a number
abbrev Behind : Option ℕ → List (ℕ × ℕ) → Type 0
Behind before [] = Unit {0}
Behind before (e ∷ es) = number_follows before e.0 ≡ true

none_before : (es : List (ℕ × ℕ)) → Behind None es
none_before [] = tt
none_before (e ∷ es) = refl

later_number : (k n : ℕ) → T (is_lt (nat_cmp k n)) → ltb k n ≡ true
later_number k n h = grind (arith, nat_tests)

other_number : (k n : ℕ) → T (is_lt (nat_cmp k n)) → eq_by_cmp nat_cmp k n ≡ false
other_number k n h = grind (arith, nat_tests)

behind : (k : ℕ) (es : List (ℕ × ℕ)) → T (below_all nat_cmp k es) → Behind (Some k) es
behind k [] h = tt
behind k (e ∷ es) h = later_number k e.0 (T_both (is_lt (nat_cmp k e.0)) (below_all nat_cmp k es) h).0

find_below : (k : ℕ) (es : List (ℕ × ℕ)) → T (below_all nat_cmp k es) → find nat_cmp k es ≡ None
find_below k [] h = refl
find_below k (e ∷ es) h =
    let both = T_both (is_lt (nat_cmp k e.0)) (below_all nat_cmp k es) h in
    (λ i. cond (other_number k e.0 both.0 i) (Some e.1) (find_below k es both.1 i))

found_first : (e : ℕ × ℕ) (es : List (ℕ × ℕ)) → find nat_cmp e.0 (e ∷ es) ≡ Some e.1
found_first e es = ap (λ r. cond (is_eq r) (Some e.1) (find nat_cmp e.0 es)) (tied_itself nat_cmp_total e.0)

found_later : (e : ℕ × ℕ) (es : List (ℕ × ℕ)) (q x : ℕ) → T (below_all nat_cmp e.0 es) → find nat_cmp q es ≡ Some x → find nat_cmp q (e ∷ es) ≡ Some x
found_later e es q x below f = by (eq_by_cmp nat_cmp q e.0) refl
  where
    by : (b : Bool) → eq_by_cmp nat_cmp q e.0 ≡ b → cond b (Some e.1) (find nat_cmp q es) ≡ Some x
    by true t = let none : find nat_cmp q es ≡ None = ap (λ k. find nat_cmp k es) (tied_counts q e.0 t) ∙ find_below e.0 es below in absurd cc
    by false t = f

waits_chained : (prefix : ℕ) (before : Option ℕ) (es : List (ℕ × ℕ)) → T (is_sorted nat_cmp es) → Behind before es
    → ((q m : ℕ) → find nat_cmp q es ≡ Some m → (prefix < q) × ((q ≤ m) × (m ≤ 2 ^ 62))) → Chained (λ m. m.0) (WaitingFits prefix) before es
waits_chained prefix before [] sorted place each = tt
waits_chained prefix before (e ∷ es) sorted place each =
    let both = T_both (below_all nat_cmp e.0 es) (is_sorted nat_cmp es) sorted in
    ((place, each e.0 e.1 (found_first e es)), waits_chained prefix (Some e.0) es both.1 (behind e.0 es both.0) (λ q m f. each q m (found_later e es q m both.0 f)))

extras_chained : (prefix : ℕ) (before : Option ℕ) (es : List (ℕ × ℕ)) → T (is_sorted nat_cmp es) → Behind before es
    → ((q m : ℕ) → find nat_cmp q es ≡ Some m → (prefix + 1 < q) × (q ≤ 2 ^ 62)) → Chained (λ n. n) (ExtraFits prefix) before (map (λ e. e.0) es)
extras_chained prefix before [] sorted place each = tt
extras_chained prefix before (e ∷ es) sorted place each =
    let both = T_both (below_all nat_cmp e.0 es) (is_sorted nat_cmp es) sorted in
    ((place, each e.0 e.1 (found_first e es)), extras_chained prefix (Some e.0) es both.1 (behind e.0 es both.0) (λ q m f. each q m (found_later e es q m both.0 f)))

-- ---- streams

covered_most : (t : set.FinSet nat_cmp) → ((q : ℕ) → set.contains t q ≡ true → q ≤ 2 ^ 62) → (p : ℕ) → covers t p ≡ true → p ≤ 2 ^ 62
covered_most t most zero c = omega arith
covered_most t most (suc n) c = most (suc n) (first (set.contains t (suc n)) (covers t n) c)

-- a number that is taken and not covered is above the next one after the prefix
beyond : (t : set.FinSet nat_cmp) (p q : ℕ) → covers t p ≡ true → ((n : ℕ) → covers t n ≡ leb n p) → set.contains t q ≡ true → covers t q ≡ false → p + 1 < q
beyond t p q c law there un =
    let above : p < q = leb-false q p (sym (law q) ∙ un) in
    by (leb q (p + 1)) refl above
  where
    by : (b : Bool) → leb q (p + 1) ≡ b → p < q → p + 1 < q
    by false e above = leb-false q (p + 1) e
    by true e above =
        let within = leb-true q (p + 1) e in
        let is : suc p ≡ q = omega arith in
        let next : set.contains t (suc p) ≡ true = ap (set.contains t) is ∙ there in
        absurd (true≢false (sym ((λ i. next i && c i)) ∙ ap (covers t) is ∙ un))

abbrev extras_of : StreamContent → finmap.FinMap nat_cmp ℕ
extras_of s = finmap.from_entries {R = nat_cmp} (map (λ n. (n, n)) (set.items (extra_numbers s)))

stream_fits : (s : StreamContent) → IsLawfulStream s → IsNumbered s → StreamFits (wire_stream_of s)
stream_fits s lawful is =
    record {
      prefix = covered_most s.taken is.numbers (prefix_of s) all;
      closed = is.closed;
      extra = extras_chained (prefix_of s) None (finmap.entries (extras_of s)) (finmap.entries_sorted (extras_of s)) (none_before (finmap.entries (extras_of s))) (λ q m f.
          let told = sym (extra_told s q) ∙ sym (finmap.contains_key-keys (extras_of s) q) ∙ ap is_some (finmap.get-entries (extras_of s) q ∙ f) in
          let there = first (set.contains s.taken q) (not (covers s.taken q)) told in
          (beyond s.taken (prefix_of s) q all law there (not-true (covers s.taken q) (second (set.contains s.taken q) (not (covers s.taken q)) told)), is.numbers q there));
      waiting = waits_chained (prefix_of s) None (finmap.entries s.waiting) (finmap.entries_sorted s.waiting) (none_before (finmap.entries s.waiting)) (λ q m f.
          let e = finmap.get-entries s.waiting q ∙ f in
          (leb-false q (prefix_of s) (sym (law q) ∙ lawful q m e), is.marks q m e));
    }
  where
    all : covers s.taken (prefix_of s) ≡ true
    all = greatest_covered_too s.taken (set.items s.taken)

    law : (n : ℕ) → covers s.taken n ≡ leb n (prefix_of s)
    law n = reached_law s.taken n

pub streams_fit : (ss : List StreamContent) → All IsLawfulStream ss → All IsNumbered ss → AllByRecursion StreamFits (map wire_stream_of ss)
streams_fit [] lawful are = tt
streams_fit (s ∷ ss) lawful are =
    (stream_fits s (All-head IsLawfulStream s ss lawful) (All-head IsNumbered s ss are), streams_fit ss (All-tail IsLawfulStream s ss lawful) (All-tail IsNumbered s ss are))

pub least_same : (ss : List StreamContent) → least_closed_of (map wire_stream_of ss) ≡ least_closed ss
least_same [] = refl
least_same (s ∷ []) = refl
least_same (s ∷ t ∷ more) = ap (min s.closed) (least_same (t ∷ more))

pub count_same : (ss : List StreamContent) → length (map wire_stream_of ss) ≡ length ss
count_same [] = refl
count_same (s ∷ ss) = ap suc (count_same ss)

-- ---- facts

passed : (b : Bool) (why : FormFault) (rest : Option FormFault) → cond (not b) (Some why) rest ≡ None → (b ≡ true) × (rest ≡ None)
passed true why rest e = (refl, e)
passed false why rest e = absurd cc

parts_fit : (base horizon born : ℕ) (row : Option RowValue) (died : Option ℕ) → (is_some row || is_some died) ≡ true → is_valid_row base born row ≡ true → is_valid_end base horizon born died ≡ true → PresentFits row → DiedFits died → PartsFit base horizon born row died
parts_fit base horizon born None None known r d fits ends = absurd cc
parts_fit base horizon born (Some row) None known r d fits ends = (ltb-true base born r, fits)
parts_fit base horizon born None (Some died) known r d fits ends = (ends, d)
parts_fit base horizon born (Some row) (Some died) known r d fits ends = (ltb-true base born r, (fits, (ends, d)))

pub facts_chained : (base horizon : ℕ) (before : Option VersionKey) (facts : List Known) → facts_fault base horizon before facts ≡ None → AllByRecursion KnownFits facts → Chained (λ e. e.0) (FactFits base horizon) before facts
facts_chained base horizon before [] h fit = tt
facts_chained base horizon before (e ∷ facts) h fit =
    let order = passed (follows before e.0) BadOrder _ h in
    let rest = passed (is_valid_fact base horizon e) BadNumber _ order.1 in
    let a : (nat_lt 0 e.0.born && is_known e.1 && is_valid_row base e.0.born e.1.row && is_valid_end base horizon e.0.born e.1.died) ≡ true = rest.0 in
    let b = first (nat_lt 0 e.0.born && is_known e.1 && is_valid_row base e.0.born e.1.row) (is_valid_end base horizon e.0.born e.1.died) a in
    let c = first (nat_lt 0 e.0.born && is_known e.1) (is_valid_row base e.0.born e.1.row) b in (
      (
        ((order.0, (fit.0.name.table, (fit.0.name.key, (ltb-true 0 e.0.born (first (nat_lt 0 e.0.born) (is_known e.1) c), fit.0.name.born))))),
        parts_fit base horizon e.0.born e.1.row e.1.died (second (nat_lt 0 e.0.born) (is_known e.1) c) (second (nat_lt 0 e.0.born && is_known e.1) (is_valid_row base e.0.born e.1.row) b) (second (nat_lt 0 e.0.born && is_known e.1 && is_valid_row base e.0.born e.1.row) (is_valid_end base horizon e.0.born e.1.died) a) fit.0.row fit.0.died,
      ),
      facts_chained base horizon (Some e.0) facts rest.1 fit.1,
    )

-- ---- fragments

pub fragment_fits : (f : FragmentValue) → f.content.log < 2 ^ 64 → 1 ≤ length f.content.streams → length f.content.streams ≤ 64 → f.base ≤ 2 ^ 62 → f.content.horizon ≤ 2 ^ 62 → IsLawfulFragment f → All IsNumbered f.content.streams
    → facts_fault f.base f.content.horizon None (versions_listed f.content) ≡ None → AllByRecursion KnownFits (versions_listed f.content) → FragmentFits (wire_fragment_of f)
fragment_fits f log least most base horizon lawful numbered faultless fit =
    let count = count_same f.content.streams in
    record {
      log = log;
      least = omega arith;
      most = omega arith;
      base = base;
      horizon = horizon;
      base_above = lawful.base_above;
      within = (let same = least_same f.content.streams in let reach = lawful.content.in_reach in omega arith);
      streams = streams_fit f.content.streams lawful.content.streams numbered;
      facts = facts_chained f.base f.content.horizon None (versions_listed f.content) faultless fit;
    }
