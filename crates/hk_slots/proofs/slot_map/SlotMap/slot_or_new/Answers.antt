use Rattle.hk_slots.proofs.FoundSlots.{known_new}
use Rattle.hk_slots.proofs.slot_map.SlotMap.slot_or_new.Goals as goal

pub returns-in-Some-clause-map : goal.returns-in-Some-clause-map
returns-in-Some-clause-map g c = known_new c.args.self.now c.args.key c.in-Some.slot c.args.fresh c.in-Some.ensures.own c.in-Some.ensures.slot
