use Rattle.std.proofs.Common.{sym, ap, ◌∙◌, Some}
use Rattle.std.specs.FinMap as finmap
use Rattle.slab.specs.Slab as slab
use Rattle.hk_slots.specs.SlotMaps.{slots_of}
use Rattle.hk_slots.proofs.SeenSlots.{value_at, told_slot, unmapped}
use Rattle.hk_slots.proofs.slot_map.SlotMap.get.Goals as goal

pub returns-in_err-slot : goal.returns-in_err-slot
returns-in_err-slot g c = rw c.from_residual.ensures (sym (unmapped _ _ (c.in_err-slot.ensures.own.keys c.args.key) (sym c.in_err-slot.ensures.slot)))

pub returns-in_err-_key : goal.returns-in_err-_key
returns-in_err-_key g c =
    let t = c.self.inside.slots in
    let u = c.self.inside.entries in
    let at = told_slot g.met.K.Ord.total g.met.K.Key.same t u c.args.key (Some c.in_ok-slot.slot) (c.in_ok-slot.ensures.slot ∙ ap (λ x. finmap.get (slots_of g.K.Ord.cmp x) c.args.key) (sym c.self.view_is)) in
    let none = c.in_err-_key.ensures ∙ ap (slab.get u) c.index.ensures in
    rw (c.from_residual-in_err-_key.ensures, ← c.self.view_is) (sym (value_at g.met.K.Ord.total g.met.K.Key.same t u c.self.invariant c.args.key _ at _ (sym none)))

pub returns : goal.returns
returns g c =
    let t = c.self.inside.slots in
    let u = c.self.inside.entries in
    let at = told_slot g.met.K.Ord.total g.met.K.Key.same t u c.args.key (Some c.in_ok-slot.slot) (c.in_ok-slot.ensures.slot ∙ ap (λ x. finmap.get (slots_of g.K.Ord.cmp x) c.args.key) (sym c.self.view_is)) in
    let some = c.in_ok-_key.ensures ∙ ap (slab.get u) c.index.ensures in
    rw (← c.self.view_is) (sym (value_at g.met.K.Ord.total g.met.K.Key.same t u c.self.invariant c.args.key _ at _ (sym some)))
