use Rattle.std.proofs.Common.{refl, sym, ap, ◌∙◌, subst, Some, IsSome}
use Rattle.std.specs.FinMap as finmap
use Rattle.slab.specs.Slab as slab
use Rattle.hk_slots.specs.SlotMaps.{slots_of, map_of}
use Rattle.hk_slots.proofs.SeenSlots.{value_at, told_slot}
use Rattle.hk_slots.proofs.ChangedSlots.{written_laid, written_is, new_here, written_new, same_some}
use Rattle.hk_slots.proofs.slot_map.SlotMap.get_or_insert.Goals as goal

pub index_mut-entry-requires : goal.index_mut-entry-requires
index_mut-entry-requires g c =
    let t = c.self.inside.slots in
    let u = c.self.inside.entries in
    let at = told_slot g.met.K.Ord.total g.met.K.Key.same t u c.args.key (Some c.in_ok-slot.slot) (sym c.in_ok-slot.ensures.slot ∙ ap (λ x. finmap.get (slots_of g.K.Ord.cmp x) c.args.key) (sym c.self.view_is)) in
    let own = c.self.invariant.matched.seat c.args.key c.in_ok-slot.slot at in
    subst IsSome (sym (ap (slab.get u) c.index.ensures ∙ own.1)) refl

pub invariant_of-self-lent : goal.invariant_of-self-lent
invariant_of-self-lent g c =
    let t = c.self.inside.slots in
    let u = c.self.inside.entries in
    let at = told_slot g.met.K.Ord.total g.met.K.Key.same t u c.args.key (Some c.in_ok-slot.slot) (sym c.in_ok-slot.ensures.slot ∙ ap (λ x. finmap.get (slots_of g.K.Ord.cmp x) c.args.key) (sym c.self.view_is)) in
    λ w. written_laid g.met.K.Ord.total g.met.K.Key.same t u c.args.key c.in_ok-slot.slot c.index.result c.index_mut-entry.result.now c.self.invariant at c.index.ensures c.index_mut-entry.ensures.value w

pub returns : goal.returns
returns g c =
    let t = c.self.inside.slots in
    let u = c.self.inside.entries in
    let at = told_slot g.met.K.Ord.total g.met.K.Key.same t u c.args.key (Some c.in_ok-slot.slot) (sym c.in_ok-slot.ensures.slot ∙ ap (λ x. finmap.get (slots_of g.K.Ord.cmp x) c.args.key) (sym c.self.view_is)) in
    let is = ap (map_of g.K.Ord.cmp) c.self.view_is ∙ c.in_ok-slot.ensures.map in
    let old = map_of g.K.Ord.cmp c.args.self.now in
    let here = ap (λ m. finmap.get m c.args.key) is ∙ new_here g.met.K.Ord.total g.met.K.Key.same old c.args.key c.args.fresh in
    let value = value_at g.met.K.Ord.total g.met.K.Key.same t u c.self.invariant c.args.key c.in_ok-slot.slot at _ (ap (slab.get u) (sym c.index.ensures) ∙ c.index_mut-entry.ensures.value) in (
      (
        refl,
        λ w some.
            (written_is g.met.K.Ord.total g.met.K.Key.same t u c.args.key c.in_ok-slot.slot c.index.result c.index_mut-entry.result.now c.self.invariant at c.index.ensures c.index_mut-entry.ensures.value w).map
            ∙ ap (λ m. finmap.insert m c.args.key w) is
            ∙ written_new g.met.K.Ord.total g.met.K.Key.same old c.args.key c.args.fresh w,
        tt,
      ),
      record { writes_back = tt; value = same_some _ _ (sym value ∙ here); absent = tt; full = tt },
    )
