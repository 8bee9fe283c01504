use Rattle.std.proofs.Common.{refl, sym, ap, ◌∙◌, subst, Some, IsSome, true≢false}
use Rattle.std.specs.FinMap as finmap
use Rattle.slab.specs.Slab as slab
use Rattle.hk_slots.specs.SlotMaps.{slots_of}
use Rattle.hk_slots.proofs.SeenSlots.{value_at, told_slot, unmapped}
use Rattle.hk_slots.proofs.ChangedSlots.{written_laid, written_is}
use Rattle.hk_slots.proofs.slot_map.SlotMap.get_mut.Goals as goal

pub returns-in_err-slot : goal.returns-in_err-slot
returns-in_err-slot g c =
    let none = unmapped _ _ (c.in_err-slot.ensures.own.keys c.args.key) (sym c.in_err-slot.ensures.slot) in
    rw c.from_residual.ensures ((refl, λ w some. absurd (true≢false (sym (subst IsSome none some))), c.in_err-slot.ensures.kept), record { writes_back = tt; value = sym none })

pub index_mut-entry-requires : goal.index_mut-entry-requires
index_mut-entry-requires g c =
    let t = c.self.inside.slots in
    let u = c.self.inside.entries in
    let at = told_slot g.met.K.Ord.total g.met.K.Key.same t u c.args.key (Some c.in_ok-slot.slot) (c.in_ok-slot.ensures.slot ∙ ap (λ x. finmap.get (slots_of g.K.Ord.cmp x) c.args.key) (sym (c.self.view_is ∙ c.in_ok-slot.ensures.kept))) in
    let own = c.self.invariant.matched.seat c.args.key c.in_ok-slot.slot at in
    subst IsSome (sym (ap (slab.get u) c.index.ensures ∙ own.1)) refl

pub invariant_of-self-lent : goal.invariant_of-self-lent
invariant_of-self-lent g c =
    let t = c.self.inside.slots in
    let u = c.self.inside.entries in
    let at = told_slot g.met.K.Ord.total g.met.K.Key.same t u c.args.key (Some c.in_ok-slot.slot) (c.in_ok-slot.ensures.slot ∙ ap (λ x. finmap.get (slots_of g.K.Ord.cmp x) c.args.key) (sym (c.self.view_is ∙ c.in_ok-slot.ensures.kept))) in
    λ w. written_laid g.met.K.Ord.total g.met.K.Key.same t u c.args.key c.in_ok-slot.slot c.index.result c.index_mut-entry.result.now c.self.invariant at c.index.ensures c.index_mut-entry.ensures.value w

pub returns : goal.returns
returns g c =
    let t = c.self.inside.slots in
    let u = c.self.inside.entries in
    let at = told_slot g.met.K.Ord.total g.met.K.Key.same t u c.args.key (Some c.in_ok-slot.slot) (c.in_ok-slot.ensures.slot ∙ ap (λ x. finmap.get (slots_of g.K.Ord.cmp x) c.args.key) (sym (c.self.view_is ∙ c.in_ok-slot.ensures.kept))) in
    rw (← (c.self.view_is ∙ c.in_ok-slot.ensures.kept)) (
      (refl, λ w some. written_is g.met.K.Ord.total g.met.K.Key.same t u c.args.key c.in_ok-slot.slot c.index.result c.index_mut-entry.result.now c.self.invariant at c.index.ensures c.index_mut-entry.ensures.value w, sym c.self.view_is),
      record {
        writes_back = tt;
        value = sym (value_at g.met.K.Ord.total g.met.K.Key.same t u c.self.invariant c.args.key c.in_ok-slot.slot at _ (ap (slab.get u) (sym c.index.ensures) ∙ c.index_mut-entry.ensures.value));
      },
    )
