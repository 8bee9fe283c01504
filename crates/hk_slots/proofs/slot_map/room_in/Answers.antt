use Rattle.std.proofs.Common.{rules}
use Rattle.hk_slots.proofs.slot_map.room_in.Goals as goal

pub returns-in-None-2-clause-full : goal.returns-in-None-2-clause-full
returns-in-None-2-clause-full g c = search rules
