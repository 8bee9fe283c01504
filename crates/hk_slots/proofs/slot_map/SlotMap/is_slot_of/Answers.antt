use Rattle.std.proofs.Common.{sym, ap, ◌∙◌}
use Rattle.slab.specs.Slab as slab
use Rattle.hk_slots.proofs.SeenSlots.{slot_told}
use Rattle.hk_slots.proofs.slot_map.SlotMap.is_slot_of.Goals as goal

pub returns-in-Some : goal.returns-in-Some
returns-in-Some g c =
    let u = c.self.inside.entries in
    let e = c.in-Some.field-0.now in
    let has = c.in-Some.ensures ∙ ap (slab.get u) c.index.ensures in
    rw (← c.self.view_is) (λ is. slot_told g.met.K.Ord.total g.met.K.Key.same c.self.inside.slots u c.self.invariant e c.args.key c.args.slot (sym has) (sym (g.met.K.Ord.matches_eq e.0 c.args.key) ∙ sym c.eq.ensures ∙ is))
