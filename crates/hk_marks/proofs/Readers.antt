-- What the readers of a stored stream give.
use Rattle.std.proofs.Common.{◌≡◌, refl, sym, ap, ◌∙◌, ℕ, ◌<◌, ◌≤◌, ◌+◌, Bool, true, false, cond, not, T, Option, Some, None, is_some, List, [], ◌∷◌, length, map, ◌||◌, ◌&&◌, ltb, leb, nat_le, nat_cmp, is_le, is_lt, Ordering, Less, arith, unwrap_or, max, true≢false}
use Rattle.std.proofs.lemmas.Bool.Decides.{nat_tests}
use Rattle.std.specs.List.{AllByRecursion}
use Rattle.std.specs.List.Sorted.{IsStrictlySortedBy}
use Rattle.std.specs.Map.{keys_of, lookup, update_all}
use Rattle.std.proofs.lemmas.Map.Made.{update_all_none}
use Rattle.std.proofs.lemmas.Map.Keys.{IsDistinct-from_sorted}
use Rattle.std.specs.Ordering.{eq_by_cmp}
use Rattle.std.specs.Cmp.{nat_cmp_total, eq_by_cmp_equiv}
use Rattle.std.specs.BTreeMap.{BTreeMap, is_at}
use Rattle.std.specs.BTreeMap as tree
use Rattle.std.specs.FinMap as finmap
use Rattle.std.specs.FinMap.Entries.{below_all, is_sorted, same_entries}
use Rattle.std.specs.FinSet as set
use Rattle.hk_model.specs.Replica.Streams.{covers, unknown, adds_nothing}
use Rattle.hk_model.specs.Replica.Lawful.{IsLawfulStream}
use Rattle.hk_marks.proofs.StoredStreams.{contains-taken_seen, covers_seen, get-waiting_seen}
use Rattle.hk_marks.specs.Seen.{taken_seen, waiting_seen, IsExtra, IsStored, stream_seen}
use Rattle.hk_marks.specs.Steps.{extra_numbers, IsInOrder}

-- ---- the entries of a map that is seen are those of its tree

T_less : {o : Ordering} → o ≡ Less → T (is_lt o)
T_less e = grind (arith, nat_tests)

T_and : (a b : Bool) → T a → T b → T (a && b)
T_and true b p q = q
T_and false b p q = p

below_from : {K X : Type 0} (R : K → K → Ordering) (k : K) (es : List (K × X)) → AllByRecursion (λ y. R k y ≡ Less) (keys_of es) → T (below_all R k es)
below_from R k [] h = tt
below_from R k (e ∷ es) h = T_and (is_lt (R k e.0)) (below_all R k es) (T_less h.0) (below_from R k es h.1)

pub is_sorted-from : {K X : Type 0} (R : K → K → Ordering) (es : List (K × X)) → IsStrictlySortedBy R (keys_of es) → T (is_sorted R es)
unfolding IsStrictlySortedBy
is_sorted-from R [] h = tt
is_sorted-from R (e ∷ es) h = T_and (below_all R e.0 es) (is_sorted R es) (below_from R e.0 es h.0) (is_sorted-from R es h.1)

pub entries-from_sorted : (es : List (ℕ × ℕ)) → IsStrictlySortedBy nat_cmp (keys_of es) → finmap.entries (finmap.from_entries {R = nat_cmp} es) ≡ es
entries-from_sorted es rise =
    same_entries nat_cmp nat_cmp_total finmap.nat_cmp-IsAntisymmetric (finmap.entries (finmap.from_entries es)) es (finmap.entries_sorted (finmap.from_entries es)) (is_sorted-from nat_cmp es rise)
    (λ q. sym (finmap.get-entries (finmap.from_entries es) q) ∙ finmap.get-from_entries nat_cmp_total es q)

pub entries-waiting_seen : (w : BTreeMap ℕ ℕ) → tree.IsOrdered nat_cmp w → finmap.entries (waiting_seen w) ≡ w.entries
unfolding waiting_seen
entries-waiting_seen w rise = entries-from_sorted w.entries rise

pub length_seen : (w : BTreeMap ℕ ℕ) → tree.IsOrdered nat_cmp w → finmap.len (waiting_seen w) ≡ length w.entries
length_seen w rise = finmap.len-entries _ ∙ ap length (entries-waiting_seen w rise)

-- ---- the extra numbers

pub extra_numbers_seen : (p : ℕ) (extra : set.FinSet nat_cmp) (c : ℕ) (w : BTreeMap ℕ ℕ) → IsExtra p extra → extra ≡ extra_numbers (stream_seen p extra c w)
extra_numbers_seen p extra c w above = set.same_set nat_cmp_total finmap.nat_cmp-IsAntisymmetric _ _ (λ q.
    kept q (set.contains extra q) (λ e. (above q e).0)
    ∙ (λ i. sym (contains-taken_seen p extra q) i && not (sym (covers_seen p extra above q) i))
    ∙ sym (set.contains-retain (taken_seen p extra) (λ n. not (covers (taken_seen p extra) n)) q (λ x t. ap (λ n. not (covers (taken_seen p extra) n)) (sym (finmap.nat_cmp-IsAntisymmetric q x t)))))
  where
    kept : (q : ℕ) (x : Bool) → (x ≡ true → p + 1 < q) → x ≡ (((ltb 0 q && leb q p) || x) && not (leb q p))
    kept q true h = let l = h refl in grind (arith, nat_tests)
    kept q false h = grind (arith, nat_tests)

pub no_extras : (p : ℕ) (extra : set.FinSet nat_cmp) (c : ℕ) (w : BTreeMap ℕ ℕ) → IsExtra p extra → IsInOrder (stream_seen p extra c w) → extra ≡ set.empty
no_extras p extra c w above order = extra_numbers_seen p extra c w above ∙ set.empty_of_len _ order.0

-- ---- nothing is known

pub unknown_seen : (extra : set.FinSet nat_cmp) (c : ℕ) (w : BTreeMap ℕ ℕ) → extra ≡ set.empty → c ≡ 0 → w.entries ≡ [] → stream_seen 0 extra c w ≡ unknown
unfolding taken_seen waiting_seen
unknown_seen extra c w no_extra is none =
    let taken : taken_seen 0 extra ≡ set.empty = set.same_set nat_cmp_total finmap.nat_cmp-IsAntisymmetric _ _ (λ q.
    set.contains-union nat_cmp_total set.empty extra q
    ∙ (λ i. set.contains-empty nat_cmp q i || set.contains (no_extra i) q)) in
    let closed : c ≡ max 0 0 = is ∙ (omega arith) in
    let waits : waiting_seen w ≡ unknown.waiting = finmap.same_map nat_cmp_total finmap.nat_cmp-IsAntisymmetric _ _ (λ q.
    (λ i. finmap.get (finmap.from_entries {R = nat_cmp} (none i)) q)
    ∙ finmap.get-empty nat_cmp q
    ∙ sym (finmap.get-retain_keys finmap.empty (λ n. not (covers set.empty n)) q (λ x t. ap (λ n. not (covers set.empty n)) (sym (finmap.nat_cmp-IsAntisymmetric q x t)))
    ∙ (λ i. cond (not (covers set.empty q)) (finmap.get-empty nat_cmp q i) None)
    ∙ same_both (not (covers set.empty q)))) in
    λ i. record { taken = taken i; closed = closed i; waiting = waits i }
  where
    same_both : (b : Bool) → cond {A = Option ℕ} b None None ≡ None
    same_both true = refl
    same_both false = refl

pub nothing_stored : (extra : set.FinSet nat_cmp) (w : BTreeMap ℕ ℕ) → extra ≡ set.empty → w.entries ≡ [] → IsStored 0 extra w
nothing_stored extra w no_extra none = record {
  prefix_most = omega arith;
  extras = λ q e. absurd (true≢false (sym e ∙ ap (λ (s : set.FinSet nat_cmp). set.contains s q) no_extra ∙ set.contains-empty nat_cmp q));
  waits = λ q m e. absurd (never (sym (ap (λ (es : List (ℕ × ℕ)). lookup (is_at (nat_cmp q)) es) none) ∙ e));
}
  where
    never : {m : ℕ} → ◌≡◌ {A = Option ℕ} None (Some m) → ⊥
    never e = cc

-- ---- every stored stream is lawful

pub lawful_seen : (p : ℕ) (extra : set.FinSet nat_cmp) (c : ℕ) (w : BTreeMap ℕ ℕ) → IsStored p extra w → IsLawfulStream (stream_seen p extra c w)
lawful_seen p extra c w ok q x e =
    let above : p < q = ok.waits q x (sym (get-waiting_seen w q) ∙ e) in
    let f : leb q p ≡ false = grind (arith, nat_tests) in
    covers_seen p extra ok.extras q ∙ f

-- ---- whether a mark tells nothing new

at_most : (m x : ℕ) → is_le (nat_cmp m x) ≡ nat_le m x
at_most m x = grind (arith, nat_tests)

pub told_closed : (p : ℕ) (extra : set.FinSet nat_cmp) (c : ℕ) (w : BTreeMap ℕ ℕ) (n m : ℕ) → IsExtra p extra → n ≤ p → is_le (nat_cmp m c) ≡ adds_nothing (stream_seen p extra c w) n m
told_closed p extra c w n m above within =
    let f : leb n p ≡ true = grind (arith, nat_tests) in
    at_most m c ∙ sym (ap (λ b. cond b (nat_le m c) (is_some (finmap.get (waiting_seen w) n) && nat_le m (unwrap_or (finmap.get (waiting_seen w) n) 0))) (covers_seen p extra above n ∙ f))

pub told_waiting : (p : ℕ) (extra : set.FinSet nat_cmp) (c : ℕ) (w : BTreeMap ℕ ℕ) (n m : ℕ) (x : Option ℕ) → IsExtra p extra → p < n → tree.get nat_cmp w n ≡ x
    → (is_some x && nat_le m (unwrap_or x 0)) ≡ adds_nothing (stream_seen p extra c w) n m
told_waiting p extra c w n m x above beyond is =
    let f : leb n p ≡ false = grind (arith, nat_tests) in
    ap (λ y. is_some y && nat_le m (unwrap_or y 0)) (sym is ∙ sym (get-waiting_seen w n))
    ∙ sym (ap (λ b. cond b (nat_le m c) (is_some (finmap.get (waiting_seen w) n) && nat_le m (unwrap_or (finmap.get (waiting_seen w) n) 0))) (covers_seen p extra above n ∙ f))

pub told_later : (p : ℕ) (extra : set.FinSet nat_cmp) (c : ℕ) (w : BTreeMap ℕ ℕ) (n m x : ℕ) → IsExtra p extra → p < n → tree.get nat_cmp w n ≡ Some x → is_le (nat_cmp m x) ≡ adds_nothing (stream_seen p extra c w) n m
told_later p extra c w n m x above beyond is = at_most m x ∙ told_waiting p extra c w n m (Some x) above beyond is

pub told_never : (p : ℕ) (extra : set.FinSet nat_cmp) (c : ℕ) (w : BTreeMap ℕ ℕ) (n m : ℕ) → IsExtra p extra → p < n → tree.get nat_cmp w n ≡ None → false ≡ adds_nothing (stream_seen p extra c w) n m
told_never p extra c w n m above beyond is = told_waiting p extra c w n m None above beyond is

-- ---- two stored streams with the same parts are seen alike

pub alike_seen : (p : ℕ) (extra other : set.FinSet nat_cmp) (c : ℕ) (w v : BTreeMap ℕ ℕ) → ((q : ℕ) → set.contains other q ≡ set.contains extra q) → ((q : ℕ) → tree.get nat_cmp v q ≡ tree.get nat_cmp w q)
    → stream_seen p other c v ≡ stream_seen p extra c w
alike_seen p extra other c w v same_extra same_waiting =
    let taken = set.same_set nat_cmp_total finmap.nat_cmp-IsAntisymmetric (taken_seen p other) (taken_seen p extra) (λ q.
    contains-taken_seen p other q ∙ ap (λ b. (ltb 0 q && leb q p) || b) (same_extra q) ∙ sym (contains-taken_seen p extra q)) in
    let waits = finmap.same_map nat_cmp_total finmap.nat_cmp-IsAntisymmetric (waiting_seen v) (waiting_seen w) (λ q.
    get-waiting_seen v q ∙ same_waiting q ∙ sym (get-waiting_seen w q)) in
    λ i. record { taken = taken i; closed = c; waiting = waits i }

pub alike_stored : (p : ℕ) (extra other : set.FinSet nat_cmp) (w v : BTreeMap ℕ ℕ) → ((q : ℕ) → set.contains other q ≡ set.contains extra q) → ((q : ℕ) → tree.get nat_cmp v q ≡ tree.get nat_cmp w q)
    → IsStored p extra w → IsStored p other v
alike_stored p extra other w v same_extra same_waiting ok = record {
  prefix_most = ok.prefix_most;
  extras = λ q e. ok.extras q (sym (same_extra q) ∙ e);
  waits = λ q m e. ok.waits q m (sym (same_waiting q) ∙ e);
}

-- ---- a copied map

-- entries that are put into an empty tree are found there
pub copied_entries : (m n : BTreeMap ℕ ℕ) → tree.IsOrdered nat_cmp m → tree.IsFromIterResult nat_cmp (map (λ (e : ℕ × ℕ). (e.0, e.1)) m.entries) n → (q : ℕ) → tree.get nat_cmp n q ≡ tree.get nat_cmp m q
copied_entries m n rise from q =
    from.0 q
    ∙ ap (λ es. update_all (eq_by_cmp nat_cmp) (λ _. None) es q) (map_same m.entries)
    ∙ update_all_none (eq_by_cmp_equiv nat_cmp_total) (eq_by_cmp nat_cmp) (λ x y. refl) m.entries q (IsDistinct-from_sorted nat_cmp (keys_of m.entries) rise)
  where
    map_same : (es : List (ℕ × ℕ)) → map (λ (e : ℕ × ℕ). (e.0, e.1)) es ≡ es
    map_same [] = refl
    map_same (e ∷ es) = ap (λ l. e ∷ l) (map_same es)
