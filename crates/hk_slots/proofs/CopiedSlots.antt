-- A map that is cloned.
use Rattle.std.proofs.Common.{◌≡◌, ◌<◌, ◌^◌, sym, ap, subst, ℕ, List, Option, Some, None, Ordering}
use Rattle.std.proofs.lemmas.List.Elements.{same_from_all_zip}
use Rattle.std.specs.BTreeMap.{BTreeMap}
use Rattle.std.specs.BTreeMap as tree
use Rattle.std.specs.Map.{keys_of, lookup}
use Rattle.std.specs.List.Sorted.{IsStrictlySortedBy}
use Rattle.slab.specs.Slab.{Slab}
use Rattle.slab.specs.Slab as slab
use Rattle.hk_slots.specs.Seats.{AreLaid, AreMatched, seen, with_values}
use Rattle.hk_slots.specs.SlotMaps.{Slots}

module _ {K V : Type 0} where
  -- where clones are the same, a cloned slab has the same in each slot
  pub same_slots : (C : (K × V) → (K × V) → Type 0) → ((x y : (K × V)) → C x y → y ≡ x) → (a b : Slab (K × V)) → slab.IsSlabClone C a b → b.slots ≡ a.slots
  same_slots C same a b is = same_from_all_zip (slab.IsSlotClone C) a.slots b.slots is.slots each
    where
      each : (x y : Option (K × V)) → slab.IsSlotClone C x y → y ≡ x
      each None y e = e
      each (Some x) (Some y) e = ap (λ (z : (K × V)). Some z) (same x y e)
      each (Some x) None e = absurd e

  module _ (s t : BTreeMap K ℕ) (a b : Slab (K × V)) (keys : t.entries ≡ s.entries) (slots : b.slots ≡ a.slots) where
    pub same_seen : seen t b ≡ seen s a
    same_seen = λ i. seen_of (keys i) (slots i)
      where
        seen_of : List (K × ℕ) → List (Option (K × V)) → Slots K V
        seen_of es xs = record { entries = with_values (slab.get (record a { slots = xs })) es; slots = es }

    pub laid_again : (R : K → K → Ordering) → AreLaid R s (slab.get a) → AreLaid R t (slab.get b)
    laid_again R l = record {
      ordered = subst (λ (es : List (K × ℕ)). IsStrictlySortedBy R (keys_of es)) (sym keys) l.ordered;
      matched = subst (λ (es : List (K × ℕ)). AreMatched (λ k. lookup (tree.is_at (R k)) es) (slab.get b)) (sym keys) (subst (λ (xs : List (Option (K × V))). AreMatched (tree.get R s) (λ key. slab.get (record a { slots = xs }) key)) (sym slots) l.matched);
      low = subst (λ (es : List (K × ℕ)). (k : K) (i : ℕ) → lookup (tree.is_at (R k)) es ≡ Some i → i < 2 ^ 32) (sym keys) l.low;
    }
