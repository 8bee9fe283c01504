use Rattle.std.proofs.Common.{sym, ◌∙◌}
use Rattle.hk_slots.proofs.SeenSlots.{get_slot}
use Rattle.hk_slots.proofs.slot_map.SlotMap.slot.Goals as goal

pub returns-in-None-clause-slot : goal.returns-in-None-clause-slot
returns-in-None-clause-slot g c = rw (← c.self.view_is) (c.copied.ensures ∙ c.get.ensures.value ∙ sym (get_slot g.met.K.Ord.total g.met.K.Key.same c.self.inside.slots c.self.inside.entries c.args.key))
