use Rattle.std.proofs.Common.{sym}
use Rattle.hk_slots.proofs.SeenSlots.{slot_at, no_key_at}
use Rattle.hk_slots.proofs.slot_map.SlotMap.key_at.Goals as goal

pub returns-in_err-key-clause-none : goal.returns-in_err-key-clause-none
returns-in_err-key-clause-none g c = rw (c.from_residual.ensures, ← c.self.view_is) (no_key_at g.met.K.Ord.total g.met.K.Key.same c.self.inside.slots c.self.inside.entries c.self.invariant c.args.slot (sym c.in_err-key.ensures))

pub returns-clause-some : goal.returns-clause-some
returns-clause-some g c = rw (c.copied.ensures, ← c.self.view_is) (slot_at g.met.K.Ord.total g.met.K.Key.same c.self.inside.slots c.self.inside.entries c.self.invariant c.in_ok-key.field-0.now.0 c.args.slot c.in_ok-key.field-0.now.1 (sym c.in_ok-key.ensures))
