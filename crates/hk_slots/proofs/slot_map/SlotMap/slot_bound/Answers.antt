use Rattle.std.proofs.Common.{refl, sym, ◌∙◌, subst, IsSome, arith}
use Rattle.slab.proofs.SlabLemmas.{ContainsKey-within}
use Rattle.hk_slots.proofs.SeenSlots.{are_own, get_slot}
use Rattle.hk_slots.proofs.slot_map.SlotMap.slot_bound.Goals as goal

pub returns-clause-above : goal.returns-clause-above
returns-clause-above g c =
    let t = c.self.inside.slots in
    let u = c.self.inside.entries in
    rw (← c.self.view_is) (λ key slot at.
    let own = c.self.invariant.matched.seat key slot (sym (get_slot g.met.K.Ord.total g.met.K.Key.same t u key) ∙ at) in
    let within = ContainsKey-within u slot (subst IsSome (sym own.1) refl) in
    let low = c.self.invariant.low key slot (sym (get_slot g.met.K.Ord.total g.met.K.Key.same t u key) ∙ at) in
    omega arith)

pub returns-clause-own : goal.returns-clause-own
returns-clause-own g c = rw (← c.self.view_is) (are_own g.met.K.Ord.total g.met.K.Key.same c.self.inside.slots c.self.inside.entries c.self.invariant)
