-- A key that gets a slot unless it has one.
use Rattle.std.proofs.Common.{◌≡◌, refl, sym, ap, ◌∙◌, cond, is_some, ℕ, Option, Some, None, Result, Ok, Err, IfOk, OnOk, OnErr, Ordering}
use Rattle.std.specs.Cmp.{IsTotalOrder}
use Rattle.std.specs.Option.{unwrap_or, ok_or}
use Rattle.std.specs.FinMap as finmap
use Rattle.std.specs.BTreeMap.{BTreeMap}
use Rattle.std.specs.BTreeMap as tree
use Rattle.slab.specs.Slab.{Slab}
use Rattle.slab.specs.Slab as slab
use Rattle.hk_slots.specs.SlotMaps.{Slots, map_of, slots_of, with_new, AreOwn}
use Rattle.hk_slots.specs.Seats.{AreLaid, seen}
use Rattle.hk_slots.proofs.SeenSlots.{no_value, told_slot, room_laid, value_at}
use Rattle.hk_slots.proofs.ChangedSlots.{kept_laid, kept_map, new_there}

pub always_err : {T E P : Type 0} (r : Result T E) → P → OnErr r P
always_err (Ok x) p = tt
always_err (Err e) p = p

module _ {K V : Type 0} {R : K → K → Ordering} (total : IsTotalOrder R) (same : finmap.IsAntisymmetric R) (t : BTreeMap K ℕ) (u r : Slab (K × V)) (k : K) (s vacant : ℕ) (laid : AreLaid R t (slab.get u)) (room : r ≡ record u { capacity = r.capacity }) (is : s ≡ unwrap_or (tree.get R t k) vacant) where
  told : (o : Option ℕ) → tree.get R t k ≡ o → s ≡ unwrap_or o vacant
  told o e = is ∙ ap (λ x. unwrap_or x vacant) e

  -- a slot that is not the vacant one is the key's own
  pub own_slot : (s ≡ vacant → ⊥) → tree.get R t k ≡ Some s
  own_slot other = by (tree.get R t k) refl
    where
      by : (o : Option ℕ) → tree.get R t k ≡ o → o ≡ Some s
      by None e = absurd (other (told None e))
      by (Some o) e = ap Some (sym (told (Some o) e))

  -- the vacant one is that of a key that had none
  pub new_slot : s ≡ vacant → slab.get r vacant ≡ None → tree.get R t k ≡ None
  new_slot this free = by (tree.get R t k) refl
    where
      by : (o : Option ℕ) → tree.get R t k ≡ o → o ≡ None
      by None e = refl
      by (Some o) e =
          let has = (room_laid R t u r room laid).matched.seat k o e in
          let here = sym (told (Some o) e) ∙ this in
          absurd (cc (here, has.1, free))

  module _ (n : BTreeMap K ℕ) (other : s ≡ vacant → ⊥) (ordered : tree.IsOrdered R n) (keys : tree.Updates R t n k (Some s)) where
    pub found_laid : AreLaid R n (slab.get r)
    found_laid = kept_laid total same t n r k s (room_laid R t u r room laid) (own_slot other) ordered keys

    pub found_map : (fresh : V) → map_of R (seen n r) ≡ with_new R (map_of R (seen t u)) k fresh
    found_map fresh =
        let roomy = room_laid R t u r room laid in
        let has = roomy.matched.seat k s (own_slot other) in
        let value = value_at total same t r roomy k s (own_slot other) (Some (k, has.0)) has.1 in
        kept_map total same t n r k s roomy (own_slot other) ordered keys
        ∙ sym (new_there total same (map_of R (seen t r)) k has.0 fresh value)
        ∙ ap (λ x. with_new R (map_of R (seen t x)) k fresh) room

-- ---- where there is no room

module _ {K V E : Type 0} {R : K → K → Ordering} (total : IsTotalOrder R) (same : finmap.IsAntisymmetric R) (t : BTreeMap K ℕ) (u r : Slab (K × V)) (k : K) (laid : AreLaid R t (slab.get u)) (room : r ≡ record u { capacity = r.capacity }) (o : Option ℕ) (slot : o ≡ finmap.get (slots_of R (seen t r)) k) (why : E) where
  pub told_ok : IfOk (ok_or o why) (λ s. finmap.get (slots_of R (seen t r)) k ≡ Some s)
  told_ok = by o slot
    where
      by : (x : Option ℕ) → x ≡ finmap.get (slots_of R (seen t r)) k → IfOk (ok_or x why) (λ s. finmap.get (slots_of R (seen t r)) k ≡ Some s)
      by None e = tt
      by (Some s) e = sym e

  pub there_ok : (fresh : V) → OnOk (ok_or o why) (map_of R (seen t r) ≡ with_new R (map_of R (seen t u)) k fresh)
  there_ok fresh = by o (told_slot total same t r k o slot)
    where
      roomy : AreLaid R t (slab.get r)
      roomy = room_laid R t u r room laid

      by : (x : Option ℕ) → tree.get R t k ≡ x → OnOk (ok_or x why) (map_of R (seen t r) ≡ with_new R (map_of R (seen t u)) k fresh)
      by None e = tt
      by (Some s) e =
          let has = roomy.matched.seat k s e in
          let value = value_at total same t r roomy k s e (Some (k, has.0)) has.1 in
          sym (new_there total same (map_of R (seen t r)) k has.0 fresh value) ∙ ap (λ x. with_new R (map_of R (seen t x)) k fresh) room

  pub gone_err : OnErr (ok_or o why) (finmap.get (map_of R (seen t u)) k ≡ None)
  gone_err = by o (told_slot total same t r k o slot)
    where
      by : (x : Option ℕ) → tree.get R t k ≡ x → OnErr (ok_or x why) (finmap.get (map_of R (seen t u)) k ≡ None)
      by None e = no_value total same t u laid k e
      by (Some s) e = tt

-- ---- a key that has a slot

-- has a value too
pub known_new : {K V : Type 0} {R : K → K → Ordering} (s : Slots K V) (k : K) (slot : ℕ) (fresh : V) → AreOwn R s → finmap.get (slots_of R s) k ≡ Some slot → map_of R s ≡ with_new R (map_of R s) k fresh
known_new {R} s k slot fresh own at = ap (λ b. cond b (map_of R s) (finmap.insert (map_of R s) k fresh)) (sym (ap is_some at) ∙ own.keys k)
