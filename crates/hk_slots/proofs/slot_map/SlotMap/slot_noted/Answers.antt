use Rattle.std.proofs.Common.{sym, ◌∙◌}
use Rattle.hk_slots.proofs.SeenSlots.{get_slot, are_own}
use Rattle.hk_slots.proofs.slot_map.SlotMap.slot_noted.Goals as goal

pub returns-in-Some-clause-own : goal.returns-in-Some-clause-own
returns-in-Some-clause-own g c = rw (← c.self.view_is) (are_own g.met.K.Ord.total g.met.K.Key.same c.self.inside.slots c.self.inside.entries c.self.invariant)

pub returns-in_err-slot-in-None-clause-slot : goal.returns-in_err-slot-in-None-clause-slot
returns-in_err-slot-in-None-clause-slot g c = rw (c.from_residual.ensures, ← c.self.view_is) (c.in_err-slot-in-None.ensures.value ∙ sym (get_slot g.met.K.Ord.total g.met.K.Key.same c.self.inside.slots c.self.inside.entries c.args.key))

pub returns-in_err-slot-in-None-clause-own : goal.returns-in_err-slot-in-None-clause-own
returns-in_err-slot-in-None-clause-own g c = rw (← c.self.view_is) (are_own g.met.K.Ord.total g.met.K.Key.same c.self.inside.slots c.self.inside.entries c.self.invariant)

pub returns-in_ok-slot-in-None-clause-slot : goal.returns-in_ok-slot-in-None-clause-slot
returns-in_ok-slot-in-None-clause-slot g c = rw (← c.self.view_is) (c.in_ok-slot-in-None.ensures.value ∙ sym (get_slot g.met.K.Ord.total g.met.K.Key.same c.self.inside.slots c.self.inside.entries c.args.key))

pub returns-in_ok-slot-in-None-clause-own : goal.returns-in_ok-slot-in-None-clause-own
returns-in_ok-slot-in-None-clause-own g c = rw (← c.self.view_is) (are_own g.met.K.Ord.total g.met.K.Key.same c.self.inside.slots c.self.inside.entries c.self.invariant)
