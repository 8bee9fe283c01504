-- What a `SlotMap` is seen as, by its tree of keys and its slab of entries.
use Rattle.std.proofs.Common.{◌≡◌, ◌<◌, ◌^◌, refl, sym, ap, ◌∙◌, subst, ℕ, Bool, true, false, true≢false, cond, Option, Some, None, is_some, List, [], ◌∷◌, get_or, length, Ordering}
use Rattle.std.specs.Cmp.{IsTotalOrder, eq_by_cmp_equiv}
use Rattle.std.specs.Ordering.{eq_by_cmp}
use Rattle.std.specs.Option.{option_and_then, option_map}
use Rattle.std.specs.FinMap as finmap
use Rattle.std.specs.FinMap.{find}
use Rattle.std.specs.BTreeMap.{BTreeMap}
use Rattle.std.specs.BTreeMap as tree
use Rattle.std.specs.BTreeMap.Range.{entries_between, range_contains}
use Rattle.std.specs.declared.ops.Bound.{Bound}
use Rattle.std.specs.Map.{lookup}
use Rattle.slab.specs.Slab.{Slab}
use Rattle.slab.specs.Slab as slab
use Rattle.hk_slots.specs.SlotMaps.{map_of, slots_of, IsFree, AreOwn}
use Rattle.hk_slots.specs.Seats.{AreLaid, ArePlaced, found, seen, with_values}
use Rattle.hk_slots.proofs.Listed.{placed_tree, find_with_values, listed, length_listed, filter_with_values}
use Rattle.hk_slots.proofs.Matched.{IsChangeAt, rest_found}
use Rattle.hk_slots.proofs.Tied.{tied_is}

-- a key has no value where it has no slot
pub unmapped : {V : Type 0} (slot : Option ℕ) (value : Option V) → is_some slot ≡ is_some value → slot ≡ None → value ≡ None
unmapped slot None is none = refl
unmapped slot (Some v) is none = absurd (true≢false (sym is ∙ ap is_some none))

find_lookup : {K X : Type 0} (R : K → K → Ordering) (q : K) (es : List (K × X)) → find R q es ≡ lookup (tree.is_at (R q)) es
find_lookup R q [] = refl
find_lookup R q (e ∷ es) = ap (cond (eq_by_cmp R q e.0) (Some e.1)) (find_lookup R q es)

module _ {K V : Type 0} {R : K → K → Ordering} (total : IsTotalOrder R) (same : finmap.IsAntisymmetric R) (t : BTreeMap K ℕ) (u : Slab (K × V)) where
  abbrev slot_of : K → Option ℕ
  slot_of = tree.get R t

  abbrev value_of : Option (K × V) → Option V
  value_of o = option_map (λ (p : K × V). p.1) o

  pub get_slot : (q : K) → finmap.get (slots_of R (seen t u)) q ≡ slot_of q
  get_slot q = finmap.get-from_entries total t.entries q ∙ find_lookup R q t.entries

  -- a slot that is told is the tree's
  pub told_slot : (q : K) (o : Option ℕ) → o ≡ finmap.get (slots_of R (seen t u)) q → slot_of q ≡ o
  told_slot q o is = sym (is ∙ get_slot q)

  module _ (laid : AreLaid R t (slab.get u)) where
    pub laid_placed : ArePlaced (slab.get u) t.entries
    laid_placed = placed_tree total same (slab.get u) t laid.matched laid.ordered

    pub get_value : (q : K) → finmap.get (map_of R (seen t u)) q ≡ found slot_of (slab.get u) q
    get_value q =
        finmap.get-from_entries total (with_values (slab.get u) t.entries) q
        ∙ find_with_values (slab.get u) R q t.entries laid_placed
        ∙ ap (option_and_then (λ s. value_of (slab.get u s))) (find_lookup R q t.entries)

    -- what a key's slot has is its value
    pub value_at : (k : K) (s : ℕ) → slot_of k ≡ Some s → (o : Option (K × V)) → slab.get u s ≡ o → finmap.get (map_of R (seen t u)) k ≡ value_of o
    value_at k s is o at = get_value k ∙ ap (option_and_then (λ o. value_of (slab.get u o))) is ∙ ap value_of at

    pub no_value : (k : K) → slot_of k ≡ None → finmap.get (map_of R (seen t u)) k ≡ None
    no_value k is = get_value k ∙ ap (option_and_then (λ o. value_of (slab.get u o))) is

    -- a slot's entry is that of its key
    pub value_in : (k : K) (s : ℕ) (v : V) → slab.get u s ≡ Some (k, v) → finmap.get (map_of R (seen t u)) k ≡ Some v
    value_in k s v at = value_at k s (laid.matched.key s k v at) (Some (k, v)) at

    pub slot_at : (k : K) (s : ℕ) (v : V) → slab.get u s ≡ Some (k, v) → finmap.get (slots_of R (seen t u)) k ≡ Some s
    slot_at k s v at = get_slot k ∙ laid.matched.key s k v at

    -- a used slot is that of the key in it
    pub slot_told : (e : K × V) (k : K) (s : ℕ) → slab.get u s ≡ Some e → eq_by_cmp R e.0 k ≡ true → finmap.get (slots_of R (seen t u)) k ≡ Some s
    slot_told e k s at tie = ap (finmap.get (slots_of R (seen t u))) (sym (tied_is total same e.0 k tie)) ∙ slot_at e.0 s e.1 at

    -- no key has a free slot
    pub no_key_at : (s : ℕ) → slab.get u s ≡ None → IsFree R (seen t u) s
    no_key_at s free k at = let has = laid.matched.seat k s (sym (get_slot k) ∙ at) in cc (has.1, free)

    -- the key of a slot's entry alone has the slot
    pub own_key : (s : ℕ) (e : K × V) → slab.get u s ≡ Some e → (k : K) → finmap.get (slots_of R (seen t u)) k ≡ Some s → k ≡ e.0
    own_key s e has k at = let own = laid.matched.seat k s (sym (get_slot k) ∙ at) in let pair : ◌≡◌ {A = K × V} e (k, own.0) = cc (has, own.1) in sym (ap (λ (p : K × V). p.0) pair)

    -- a key has a slot exactly if it has a value, and no two keys have one
    pub are_own : AreOwn R (seen t u)
    are_own = record {
      keys = λ k. ap is_some (get_slot k) ∙ by k (slot_of k) refl;
      own = λ a b s at has. let here = laid.matched.seat b s (sym (get_slot b) ∙ has) in own_key s (b, here.0) here.1 a at;
    }
      where
        by : (k : K) (o : Option ℕ) → slot_of k ≡ o → is_some o ≡ is_some (finmap.get (map_of R (seen t u)) k)
        by k None is = ap is_some (sym (no_value k is))
        by k (Some s) is = let own = laid.matched.seat k s is in ap is_some (sym (value_at k s is (Some (k, own.0)) own.1))

    pub absent : (k : K) → finmap.get (map_of R (seen t u)) k ≡ None → slot_of k ≡ None
    absent k none = by (slot_of k) refl
      where
        by : (o : Option ℕ) → slot_of k ≡ o → o ≡ None
        by None e = refl
        by (Some o) e = let has = laid.matched.seat k o e in absurd (cc (value_at k o e (Some (k, has.0)) has.1, none))

-- ---- the entries in the order of their keys

module _ {K V : Type 0} {R : K → K → Ordering} (total : IsTotalOrder R) (same : finmap.IsAntisymmetric R) (t : BTreeMap K ℕ) (u : Slab (K × V)) (laid : AreLaid R t (slab.get u)) where
  pub seen_entries : finmap.entries (map_of R (seen t u)) ≡ with_values (slab.get u) t.entries
  seen_entries = listed total same (slab.get u) t laid.matched laid.ordered (map_of R (seen t u)) (λ q. get_value total same t u laid q ∙ ap (option_and_then (λ s. option_map (λ (p : K × V). p.1) (slab.get u s))) (sym (find_lookup R q t.entries)))

  pub seen_len : finmap.len (map_of R (seen t u)) ≡ length t.entries
  seen_len = finmap.len-entries (map_of R (seen t u)) ∙ ap length seen_entries ∙ length_listed total same (slab.get u) t laid.matched laid.ordered

  pub seen_between : (part : List (K × ℕ)) (low high : Bound K) → part ≡ entries_between R low high t.entries → with_values (slab.get u) part ≡ entries_between R low high (finmap.entries (map_of R (seen t u)))
  seen_between part low high is =
      ap (with_values (slab.get u)) is
      ∙ filter_with_values (slab.get u) (range_contains R low high) t.entries
      ∙ ap (entries_between R low high) (sym seen_entries)

-- ---- no entries

module _ {K V : Type 0} (R : K → K → Ordering) where
  pub empty_laid : (t : BTreeMap K ℕ) (u : Slab (K × V)) → tree.IsOrdered R t → t.entries ≡ [] → u.slots ≡ [] → AreLaid R t (slab.get u)
  empty_laid t u ordered no_keys no_slots = record {
    ordered = ordered;
    matched = record {
      seat = λ k s e. absurd (cc (ap (lookup (tree.is_at (R k))) no_keys, e));
      key = λ s k v e. absurd (cc (ap (λ es. get_or es s None) no_slots, e));
    };
    low = λ k s e. absurd (cc (ap (λ es. lookup (tree.is_at (R k)) es) no_keys, e));
  }

  -- ---- room for more entries

  pub room_laid : (t : BTreeMap K ℕ) (u w : Slab (K × V)) → w ≡ record u { capacity = w.capacity } → AreLaid R t (slab.get u) → AreLaid R t (slab.get w)
  room_laid t u w is laid = subst (λ (x : Slab (K × V)). AreLaid R t (slab.get x)) (sym is) laid

  pub room_seen : (t : BTreeMap K ℕ) (u w : Slab (K × V)) → w ≡ record u { capacity = w.capacity } → seen t w ≡ seen t u
  room_seen t u w is = ap (seen t) is

-- ---- one entry that changes

module _ {K V : Type 0} {R : K → K → Ordering} (total : IsTotalOrder R) (same : finmap.IsAntisymmetric R) (t n : BTreeMap K ℕ) (u m : Slab (K × V)) (k : K) (s : ℕ) where
  abbrev IsChange : Type 0
  IsChange = IsChangeAt R (tree.get R t) (tree.get R n) (slab.get u) (slab.get m) k s

  pub other_keys : (w : Option ℕ) → tree.Updates R t n k w → (q : K) → eq_by_cmp R q k ≡ false → tree.get R n q ≡ tree.get R t q
  other_keys w updates q e = updates.0 q ∙ ap (λ b. cond b w (tree.get R t q)) ((eq_by_cmp_equiv total).symm k q ∙ e)

  -- where the slot that a key gets is low too
  pub updated_low : (w : Option ℕ) → tree.Updates R t n k w → ((o : ℕ) → w ≡ Some o → o < 2 ^ 32) → ((q : K) (o : ℕ) → tree.get R t q ≡ Some o → o < 2 ^ 32) → (q : K) (o : ℕ) → tree.get R n q ≡ Some o → o < 2 ^ 32
  updated_low w updates own low q o at = by (eq_by_cmp R k q) refl
    where
      by : (b : Bool) → eq_by_cmp R k q ≡ b → o < 2 ^ 32
      by true e = own o (ap (λ b. cond b w (tree.get R t q)) (sym e) ∙ sym (updates.0 q) ∙ at)
      by false e = low q o (ap (λ b. cond b w (tree.get R t q)) (sym e) ∙ sym (updates.0 q) ∙ at)

  slots_changed : (w : Option ℕ) → tree.Updates R t n k w → (q : K) → finmap.get (slots_of R (seen n m)) q ≡ cond (eq_by_cmp R q k) w (finmap.get (slots_of R (seen t u)) q)
  slots_changed w updates q = get_slot total same n m q ∙ updates.0 q ∙ (λ i. cond ((eq_by_cmp_equiv total).symm k q i) w (sym (get_slot total same t u q) i))

  pub slots_put : (o : ℕ) → tree.Updates R t n k (Some o) → slots_of R (seen n m) ≡ finmap.insert (slots_of R (seen t u)) k o
  slots_put o updates = finmap.same_map total same (slots_of R (seen n m)) (finmap.insert (slots_of R (seen t u)) k o) (λ q. slots_changed (Some o) updates q ∙ sym (finmap.get-insert total (slots_of R (seen t u)) k o q))

  pub slots_gone : tree.Updates R t n k None → slots_of R (seen n m) ≡ finmap.remove (slots_of R (seen t u)) k
  slots_gone updates = finmap.same_map total same (slots_of R (seen n m)) (finmap.remove (slots_of R (seen t u)) k) (λ q. slots_changed None updates q ∙ sym (finmap.get-remove total (slots_of R (seen t u)) k q))

  module _ (laid : AreLaid R t (slab.get u)) (now : AreLaid R n (slab.get m)) (is : IsChange) where
    values_changed : (w : Option V) → found (tree.get R n) (slab.get m) k ≡ w → (q : K) → finmap.get (map_of R (seen n m)) q ≡ cond (eq_by_cmp R q k) w (finmap.get (map_of R (seen t u)) q)
    values_changed w here q = get_value total same n m now q ∙ by (eq_by_cmp R q k) refl
      where
        by : (b : Bool) → eq_by_cmp R q k ≡ b → found (tree.get R n) (slab.get m) q ≡ cond b w (finmap.get (map_of R (seen t u)) q)
        by true e = ap (found (tree.get R n) (slab.get m)) (tied_is total same q k e) ∙ here
        by false e = rest_found total same (tree.get R t) (tree.get R n) (slab.get u) (slab.get m) k s is q e ∙ sym (get_value total same t u laid q)

    pub values_put : (v : V) → tree.get R n k ≡ Some s → slab.get m s ≡ Some (k, v) → map_of R (seen n m) ≡ finmap.insert (map_of R (seen t u)) k v
    values_put v at has =
        let here = ap (option_and_then (λ o. option_map (λ (p : K × V). p.1) (slab.get m o))) at ∙ ap (option_map (λ (p : K × V). p.1)) has in
        finmap.same_map total same (map_of R (seen n m)) (finmap.insert (map_of R (seen t u)) k v) (λ q. values_changed (Some v) here q ∙ sym (finmap.get-insert total (map_of R (seen t u)) k v q))

    pub values_gone : tree.get R n k ≡ None → map_of R (seen n m) ≡ finmap.remove (map_of R (seen t u)) k
    values_gone at =
        let here = ap (option_and_then (λ o. option_map (λ (p : K × V). p.1) (slab.get m o))) at in
        finmap.same_map total same (map_of R (seen n m)) (finmap.remove (map_of R (seen t u)) k) (λ q. values_changed None here q ∙ sym (finmap.get-remove total (map_of R (seen t u)) k q))
