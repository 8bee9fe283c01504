use Rattle.hk_slots.proofs.SeenSlots.{are_own}
use Rattle.hk_slots.proofs.slot_map.SlotMap.hinted.Goals as goal

pub returns-then-is_slot_of-clause-own : goal.returns-then-is_slot_of-clause-own
returns-then-is_slot_of-clause-own g c = rw (← c.self.view_is) (are_own g.met.K.Ord.total g.met.K.Key.same c.self.inside.slots c.self.inside.entries c.self.invariant)

pub returns-else-is_slot_of-clause-own : goal.returns-else-is_slot_of-clause-own
returns-else-is_slot_of-clause-own g c = rw (← c.self.view_is) (are_own g.met.K.Ord.total g.met.K.Key.same c.self.inside.slots c.self.inside.entries c.self.invariant)
