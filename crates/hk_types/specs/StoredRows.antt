-- How a row is kept: its tag, and the bytes of its body.
use Rattle.std.specs.Prelude.{◌≡◌, ◌⊎◌, ◌<◌, ◌≤◌, ℕ, List, length, take}
use Rattle.hk_types.specs.Values.{RowValue}
use Rattle.hk_types.specs.declared.faults.FormFault.TheVariants.{BadBody}
use Rattle.hk_types.specs.declared.faults.Refusal.{Refusal}
use Rattle.hk_types.specs.declared.faults.Refusal.TheVariants.{Form, Memory}
use Rattle.std.specs.Arc.{arc_value}
use Rattle.hk_types.specs.declared.row.RowForm.{RowForm as Kept}
use Rattle.hk_types.specs.declared.row.RowForm.TheVariants.{Own, To16, To32, To48, To64, To96, To128, Long}

abbrev pub stored : Kept → RowValue
stored (Own tag bytes) = record { tag = tag; body = bytes.items }
stored (To16 tag count block) = record { tag = tag; body = take count (arc_value block) }
stored (To32 tag count block) = record { tag = tag; body = take count (arc_value block) }
stored (To48 tag count block) = record { tag = tag; body = take count (arc_value block) }
stored (To64 tag count block) = record { tag = tag; body = take count (arc_value block) }
stored (To96 tag count block) = record { tag = tag; body = take count (arc_value block) }
stored (To128 tag count block) = record { tag = tag; body = take count (arc_value block) }
stored (Long tag bytes) = record { tag = tag; body = (arc_value bytes).items }

-- no more are counted than a block has, and no body is longer than bodies may be
abbrev pub AreWithin : Kept → Type 0
AreWithin (Own tag bytes) = length bytes.items ≤ 4096
AreWithin (To16 tag count block) = count ≤ 16
AreWithin (To32 tag count block) = count ≤ 32
AreWithin (To48 tag count block) = count ≤ 48
AreWithin (To64 tag count block) = count ≤ 64
AreWithin (To96 tag count block) = count ≤ 96
AreWithin (To128 tag count block) = count ≤ 128
AreWithin (Long tag bytes) = length (arc_value bytes).items ≤ 4096

-- why a row of these bytes is not made: they are more than a body has, or there is no memory
abbrev pub IsRefusedBody : List ℕ → Refusal → Type 0
IsRefusedBody body why = ((4096 < length body) × (why ≡ Form BadBody)) ⊎ ((length body ≤ 4096) × (why ≡ Memory))
