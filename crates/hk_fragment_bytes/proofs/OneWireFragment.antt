-- What is told of a fragment is the whole of it.
use Rattle.std.proofs.Common.{◌≡◌, refl, sym, ap, ◌∙◌, ℕ, zero, suc, ◌≤◌, Bool, true, false, cond, not, ◌||◌, ◌&&◌, ltb, leb, max, nat_cmp, true≢false, List, [], ◌∷◌, map, Option, Some, None, is_some, arith, All}
use Rattle.std.specs.List.{list_any}
use Rattle.std.proofs.lemmas.List.Elements.{All-head, All-tail}
use Rattle.std.specs.Cmp.{nat_cmp_total}
use Rattle.std.specs.Ordering.{eq_by_cmp}
use Rattle.std.specs.FinMap as finmap
use Rattle.std.specs.FinMap.{find}
use Rattle.std.specs.FinSet as set
use Rattle.std.proofs.lemmas.Bool.{lt-ltb, le-leb, leb-true, leb-false}
use Rattle.hk_types.specs.Values.{RowValue}
use Rattle.hk_types.specs.declared.version_key.VersionKey.{VersionKey}
use Rattle.hk_log.specs.Versions.{VersionValue}
use Rattle.hk_model.specs.History.Rows.{version_key_cmp}
use Rattle.hk_model.specs.Replica.Streams.{StreamContent, covers}
use Rattle.hk_model.specs.Replica.Content.{Content}
use Rattle.hk_model.specs.Replica.Fragments.{FragmentValue}
use Rattle.hk_model.proofs.Replica.Maps.{version_key_total, version_key_same}
use Rattle.hk_marks.specs.Seen.{IsNumbered}
use Rattle.hk_marks.specs.Steps.{extra_numbers}
use Rattle.hk_fragment.specs.Parts.{known_of, versions_listed}
use Rattle.hk_fragment.proofs.ListedVersions.{listed_of, pairs}
use Rattle.hk_fragment_bytes.specs.Fragments.{WireFragment, WireStream, wire_stream_of, wire_fragment_of}
use Rattle.hk_marks.specs.Told.{greatest_reached}
use Rattle.hk_marks.proofs.Prefixes.{reached_there}
use Rattle.hk_fragment_bytes.proofs.StreamRead.{rising_has}

-- ---- streams

first : (a b : Bool) → (a && b) ≡ true → a ≡ true
first true b e = refl
first false b e = e

second : (a b : Bool) → (a && b) ≡ true → b ≡ true
second true b e = e
second false b e = absurd cc

-- what is covered is covered up to each number
covers_less : (t : set.FinSet nat_cmp) (m n : ℕ) → n ≤ m → covers t m ≡ true → covers t n ≡ true
covers_less t zero zero le c = refl
covers_less t zero (suc n) le c = absurd (omega arith)
covers_less t (suc m) n le c = by (leb n m) refl (λ l. covers_less t m n l (second (set.contains t (suc m)) (covers t m) c))
  where
    by : (b : Bool) → leb n m ≡ b → (n ≤ m → covers t n ≡ true) → covers t n ≡ true
    by true e less = less (leb-true n m e)
    by false e less = let is : suc m ≡ n = (let l = leb-false n m e in omega arith) in ap (covers t) (sym is) ∙ c

pub greatest_covered_too : (t : set.FinSet nat_cmp) (ks : List ℕ) → covers t (greatest_reached t ks) ≡ true
greatest_covered_too t [] = refl
greatest_covered_too t (k ∷ ks) = by (covers t k) refl (greatest_covered_too t ks)
  where
    larger : (a b : ℕ) → covers t a ≡ true → covers t b ≡ true → (c : Bool) → leb a b ≡ c → covers t (max a b) ≡ true
    larger a b p q true e = let is : max a b ≡ b = (let l = leb-true a b e in omega arith) in ap (covers t) is ∙ q
    larger a b p q false e = let is : max a b ≡ a = (let l = leb-false a b e in omega arith) in ap (covers t) is ∙ p

    by : (b : Bool) → covers t k ≡ b → covers t (greatest_reached t ks) ≡ true → covers t (cond b (max k (greatest_reached t ks)) (greatest_reached t ks)) ≡ true
    by true c rest = larger k (greatest_reached t ks) c rest (leb k (greatest_reached t ks)) refl
    by false c rest = rest

-- the numbers up to the greatest that is reached are those that are covered
pub reached_law : (t : set.FinSet nat_cmp) (n : ℕ) → covers t n ≡ leb n (greatest_reached t (set.items t))
reached_law t zero = sym (le-leb 0 (greatest_reached t (set.items t)) (omega arith))
reached_law t (suc n) = by (covers t (suc n)) refl (leb (suc n) (greatest_reached t (set.items t))) refl
  where
    by : (a : Bool) → covers t (suc n) ≡ a → (b : Bool) → leb (suc n) (greatest_reached t (set.items t)) ≡ b → a ≡ b
    by true c true e = refl
    by false c false e = refl
    by true c false e =
        let there : list_any (eq_by_cmp nat_cmp (suc n)) (set.items t) ≡ true = sym (set.contains-items t (suc n)) ∙ first (set.contains t (suc n)) (covers t n) c in
        let le = reached_there t (suc n) c (set.items t) there in
        let lt = leb-false (suc n) (greatest_reached t (set.items t)) e in
        absurd (omega arith)
    by false c true e = absurd (true≢false (sym (covers_less t (greatest_reached t (set.items t)) (suc n) (leb-true _ _ e) (greatest_covered_too t (set.items t))) ∙ c))

-- the extra numbers are those that are taken and not covered
pub extra_told : (s : StreamContent) (q : ℕ) → list_any (eq_by_cmp nat_cmp q) (wire_stream_of s).extra ≡ (set.contains s.taken q && not (covers s.taken q))
extra_told s q =
    rising_has (set.items (extra_numbers s)) q
    ∙ sym (set.contains-items (extra_numbers s) q)
    ∙ set.contains-retain s.taken (λ n. not (covers s.taken n)) q (λ x t. ap (λ n. not (covers s.taken n)) (sym (finmap.nat_cmp-IsAntisymmetric q x t)))

-- a number is taken where it is told: up to the prefix, or as an extra one
taken_told : (s : StreamContent) → set.contains s.taken 0 ≡ false → (q : ℕ) → set.contains s.taken q ≡ ((ltb 0 q && leb q (wire_stream_of s).prefix) || list_any (eq_by_cmp nat_cmp q) (wire_stream_of s).extra)
taken_told s one q =
    by q (set.contains s.taken q) refl (covers s.taken q) refl
    ∙ (λ i. (ltb 0 q && reached_law s.taken q i) || sym (extra_told s q) i)
  where
    positive : (n : ℕ) → ltb 0 (suc n) ≡ true
    positive n = lt-ltb 0 (suc n) (omega arith)

    by : (n : ℕ) (a : Bool) → set.contains s.taken n ≡ a → (b : Bool) → covers s.taken n ≡ b → a ≡ ((ltb 0 n && b) || (a && not b))
    by zero true e b c = absurd (true≢false (sym e ∙ one))
    by zero false e b c = refl
    by (suc n) true e true c = rw (positive n) refl
    by (suc n) true e false c = rw (positive n) refl
    by (suc n) false e true c = absurd (true≢false (sym (first (set.contains s.taken (suc n)) (covers s.taken n) c) ∙ e))
    by (suc n) false e false c = rw (positive n) refl

stream_same : (s t : StreamContent) → IsNumbered s → IsNumbered t → wire_stream_of s ≡ wire_stream_of t → s ≡ t
stream_same s t one other e =
    let taken : s.taken ≡ t.taken = set.same_set nat_cmp_total finmap.nat_cmp-IsAntisymmetric s.taken t.taken (λ q.
    taken_told s one.from_one q ∙ ap (λ (u : WireStream). (ltb 0 q && leb q u.prefix) || list_any (eq_by_cmp nat_cmp q) u.extra) e ∙ sym (taken_told t other.from_one q)) in
    let closed : s.closed ≡ t.closed = ap (λ (u : WireStream). u.closed) e in
    let waiting : s.waiting ≡ t.waiting = finmap.same_entries_map s.waiting t.waiting (ap (λ (u : WireStream). u.waiting) e) in
    λ i. record { taken = taken i; closed = closed i; waiting = waiting i }

streams_same : (ss ts : List StreamContent) → All IsNumbered ss → All IsNumbered ts → map wire_stream_of ss ≡ map wire_stream_of ts → ss ≡ ts
streams_same [] [] h k e = refl
streams_same [] (t ∷ ts) h k e = absurd cc
streams_same (s ∷ ss) [] h k e = absurd cc
streams_same (s ∷ ss) (t ∷ ts) h k e =
    let here : wire_stream_of s ≡ wire_stream_of t = cc in
    let rest : map wire_stream_of ss ≡ map wire_stream_of ts = cc in
    (λ i. stream_same s t (All-head IsNumbered s ss h) (All-head IsNumbered t ts k) here i ∷ streams_same ss ts (All-tail IsNumbered s ss h) (All-tail IsNumbered t ts k) rest i)

-- ---- facts

-- what is known of a version, read off a list
abbrev found_known : Option VersionValue → VersionValue
found_known None = record { row = None; died = None }
found_known (Some x) = x

known_found : (row : Option RowValue) (died : Option ℕ) → found_known (cond (is_some row || is_some died) (Some (record { row = row; died = died })) None) ≡ record { row = row; died = died }
known_found None None = refl
known_found (Some r) died = refl
known_found None (Some d) = refl

known_told : (c : Content) (v : VersionKey) → known_of c v ≡ found_known (find version_key_cmp v (versions_listed c))
known_told c v =
    sym (known_found (finmap.get c.rows v) (finmap.get c.ends v))
    ∙ ap found_known (sym (listed_of c v) ∙ sym (finmap.get-from_entries version_key_total (pairs c) v) ∙ finmap.get-entries (finmap.from_entries {R = version_key_cmp} (pairs c)) v)

-- ---- fragments

pub fragment_same : (f g : FragmentValue) → All IsNumbered f.content.streams → All IsNumbered g.content.streams → wire_fragment_of f ≡ wire_fragment_of g → f ≡ g
fragment_same f g one other e =
    let known : (v : VersionKey) → known_of f.content v ≡ known_of g.content v =
    λ v. known_told f.content v ∙ ap (λ (t : WireFragment). found_known (find version_key_cmp v t.facts)) e ∙ sym (known_told g.content v) in
    let rows : f.content.rows ≡ g.content.rows = finmap.same_map version_key_total version_key_same f.content.rows g.content.rows (λ v. ap (λ (x : VersionValue). x.row) (known v)) in
    let ends : f.content.ends ≡ g.content.ends = finmap.same_map version_key_total version_key_same f.content.ends g.content.ends (λ v. ap (λ (x : VersionValue). x.died) (known v)) in
    let streams : f.content.streams ≡ g.content.streams = streams_same f.content.streams g.content.streams one other (ap (λ (t : WireFragment). t.streams) e) in
    let log : f.content.log ≡ g.content.log = ap (λ (t : WireFragment). t.log) e in
    let base : f.base ≡ g.base = ap (λ (t : WireFragment). t.base) e in
    let horizon : f.content.horizon ≡ g.content.horizon = ap (λ (t : WireFragment). t.horizon) e in
    λ i. record { base = base i; content = record { log = log i; horizon = horizon i; rows = rows i; ends = ends i; streams = streams i } }
