use Rattle.std.proofs.Common.{rules}
use Rattle.hk_seats.proofs.changing.learn.Goals as goal

pub returns-clause-later : goal.returns-clause-later
returns-clause-later g c = search rules
