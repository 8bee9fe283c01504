use Rattle.std.proofs.Common.{rules}
use Rattle.hk_slots.proofs.slot_map.slot_or.Goals as goal

pub returns-clause-slot : goal.returns-clause-slot
returns-clause-slot g c = search rules
