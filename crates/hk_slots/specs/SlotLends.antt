-- What a `SlotMap` ends as, once a `&mut` into it has ended.
use Rattle.std.specs.Prelude.{◌≡◌, Option, IsSome, Result}
use Rattle.std.specs.Borrow.{Fml, RattleType, MutBor, LendsSo, LendsSoOk}
use Rattle.std.specs.BTreeMap.Lent.{OrdMembers}
use Rattle.std.specs.FinMap as finmap
use Rattle.hk_slots.specs.SlotMaps.{Slots, map_of, IsWritten}
use Rattle.hk_slots.specs.contracts.slot_map.SlotMap.{the_row}

module _ (K V : RattleType) (g : OrdMembers K.Denot) where
  -- the map's type, as the logic holds it
  abbrev pub slots_row : RattleType
  slots_row = the_row K V (record { cmp = g.cmp }) (record { eq = g.eq }) (record { partial_cmp = g.partial_cmp })

  module _ (m : MutBor (Slots K.Denot V.Denot)) where
    -- the key has the last value written through r, and at `None` the map stays as it is
    abbrev pub lends_value : K.Denot → Option (MutBor V.Denot) → Fml
    lends_value key r = LendsSo slots_row V m r (λ n w. IsSome (finmap.get (map_of g.cmp m.now) key) → IsWritten g.cmp m.now key w n) (λ n. n ≡ m.now)

    -- the key has the last value written through r, and at `Err` the map stays as it is
    abbrev pub lends_or_new : {E : Type 0} → K.Denot → Result (MutBor V.Denot) E → Fml
    lends_or_new key r = LendsSoOk slots_row V m r (λ n w. map_of g.cmp n ≡ finmap.insert (map_of g.cmp m.now) key w) (λ n. n ≡ m.now)
