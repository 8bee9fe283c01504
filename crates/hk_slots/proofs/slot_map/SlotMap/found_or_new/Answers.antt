use Rattle.std.proofs.Common.{sym, ◌∙◌}
use Rattle.hk_slots.proofs.SeenSlots.{get_slot, no_value}
use Rattle.hk_slots.proofs.ChangedSlots.{put_in_laid, put_in_map, new_absent}
use Rattle.hk_slots.proofs.FoundSlots.{new_slot, found_laid, found_map, always_err, told_ok, there_ok, gone_err}
use Rattle.hk_slots.proofs.slot_map.SlotMap.found_or_new.Goals as goal

pub returns-in_err-slot-clause-absent : goal.returns-in_err-slot-clause-absent
returns-in_err-slot-clause-absent g c = rw (← c.self.view_is) (always_err c.from_residual.result (no_value g.met.K.Ord.total g.met.K.Key.same c.self.inside.slots c.self.inside.entries c.self.invariant c.args.key c.in_err-slot.ensures.absent))

pub invariant_of-self-then-number : goal.invariant_of-self-then-number
invariant_of-self-then-number g c =
    found_laid g.met.K.Ord.total g.met.K.Key.same c.self.inside.slots c.self.inside.entries c.room_in.new.entries c.args.key c.in_ok-slot.slot c.in-Ok.vacant c.self.invariant c.room_in.ensures.kept c.in_ok-slot.ensures.slot
    c.slot_or.new.slots (λ e. c.if-number.true (c.number-2.ensures ∙ e ∙ sym c.number-3.ensures)) c.in_ok-slot.ensures.ordered c.in_ok-slot.ensures.updates

pub returns-then-number-clause-slot : goal.returns-then-number-clause-slot
returns-then-number-clause-slot g c = get_slot g.met.K.Ord.total g.met.K.Key.same c.slot_or.new.slots c.room_in.new.entries c.args.key ∙ c.in_ok-slot.ensures.updates.1

pub returns-then-number-clause-map : goal.returns-then-number-clause-map
returns-then-number-clause-map g c =
    rw (← c.self.view_is) (found_map g.met.K.Ord.total g.met.K.Key.same c.self.inside.slots c.self.inside.entries c.room_in.new.entries c.args.key c.in_ok-slot.slot c.in-Ok.vacant c.self.invariant c.room_in.ensures.kept c.in_ok-slot.ensures.slot
    c.slot_or.new.slots (λ e. c.if-number.true (c.number-2.ensures ∙ e ∙ sym c.number-3.ensures)) c.in_ok-slot.ensures.ordered c.in_ok-slot.ensures.updates c.args.fresh)

pub invariant_of-self-2 : goal.invariant_of-self-2
invariant_of-self-2 g c =
    let none = new_slot g.met.K.Ord.total g.met.K.Key.same c.self.inside.slots c.self.inside.entries c.room_in.new.entries c.args.key c.in_ok-slot.slot c.in-Ok.vacant c.self.invariant c.room_in.ensures.kept c.in_ok-slot.ensures.slot (sym c.number-2.ensures ∙ c.if-number.false ∙ c.number-3.ensures) c.in-Ok.ensures.free in
    put_in_laid g.met.K.Ord.total g.met.K.Key.same c.self.inside.slots c.slot_or.new.slots c.self.inside.entries c.room_in.new.entries c.insert_reserved.new.self c.args.key c.args.fresh c.in_ok-slot.slot c.in-Ok.vacant c.insert_reserved.result
    c.self.invariant (no_value g.met.K.Ord.total g.met.K.Key.same c.self.inside.slots c.self.inside.entries c.self.invariant c.args.key none) c.room_in.ensures.kept (sym c.number-2.ensures ∙ c.if-number.false ∙ c.number-3.ensures) c.in-Ok.ensures.vacant c.in-Ok.ensures.free
    c.in_ok-slot.ensures.ordered c.in_ok-slot.ensures.updates c.insert_reserved.ensures.key c.insert_reserved.ensures.updates c.in-Ok.ensures.low

pub returns-clause-slot : goal.returns-clause-slot
returns-clause-slot g c = get_slot g.met.K.Ord.total g.met.K.Key.same c.slot_or.new.slots c.insert_reserved.new.self c.args.key ∙ c.in_ok-slot.ensures.updates.1

pub returns-clause-map : goal.returns-clause-map
returns-clause-map g c =
    let none = new_slot g.met.K.Ord.total g.met.K.Key.same c.self.inside.slots c.self.inside.entries c.room_in.new.entries c.args.key c.in_ok-slot.slot c.in-Ok.vacant c.self.invariant c.room_in.ensures.kept c.in_ok-slot.ensures.slot (sym c.number-2.ensures ∙ c.if-number.false ∙ c.number-3.ensures) c.in-Ok.ensures.free in
    let absent = no_value g.met.K.Ord.total g.met.K.Key.same c.self.inside.slots c.self.inside.entries c.self.invariant c.args.key none in
    rw (← c.self.view_is) (put_in_map g.met.K.Ord.total g.met.K.Key.same c.self.inside.slots c.slot_or.new.slots c.self.inside.entries c.room_in.new.entries c.insert_reserved.new.self c.args.key c.args.fresh c.in_ok-slot.slot c.in-Ok.vacant c.insert_reserved.result
    c.self.invariant absent c.room_in.ensures.kept (sym c.number-2.ensures ∙ c.if-number.false ∙ c.number-3.ensures) c.in-Ok.ensures.vacant c.in-Ok.ensures.free
    c.in_ok-slot.ensures.ordered c.in_ok-slot.ensures.updates c.insert_reserved.ensures.key c.insert_reserved.ensures.updates c.in-Ok.ensures.low
    ∙ sym (new_absent g.met.K.Ord.total g.met.K.Key.same _ c.args.key c.args.fresh absent))

-- there is no room

pub returns-in-Err-clause-slot : goal.returns-in-Err-clause-slot
returns-in-Err-clause-slot g c = rw c.ok_or.ensures.value (told_ok g.met.K.Ord.total g.met.K.Key.same c.self.inside.slots c.self.inside.entries c.room_in.new.entries c.args.key c.self.invariant c.room_in.ensures.kept c.slot.result c.slot.ensures.slot _)

pub returns-in-Err-clause-map : goal.returns-in-Err-clause-map
returns-in-Err-clause-map g c = rw (c.ok_or.ensures.value, ← c.self.view_is) (there_ok g.met.K.Ord.total g.met.K.Key.same c.self.inside.slots c.self.inside.entries c.room_in.new.entries c.args.key c.self.invariant c.room_in.ensures.kept c.slot.result c.slot.ensures.slot _ c.args.fresh)

pub returns-in-Err-clause-absent : goal.returns-in-Err-clause-absent
returns-in-Err-clause-absent g c = rw (c.ok_or.ensures.value, ← c.self.view_is) (gone_err g.met.K.Ord.total g.met.K.Key.same c.self.inside.slots c.self.inside.entries c.room_in.new.entries c.args.key c.self.invariant c.room_in.ensures.kept c.slot.result c.slot.ensures.slot _)
