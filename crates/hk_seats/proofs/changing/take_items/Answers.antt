use Rattle.std.proofs.Common.{rules}
use Rattle.hk_seats.proofs.changing.take_items.Goals as goal

pub returns-clause-told : goal.returns-clause-told
returns-clause-told g c = search rules
