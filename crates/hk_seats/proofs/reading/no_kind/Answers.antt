use Rattle.std.proofs.Common.{refl}
use Rattle.hk_seats.proofs.reading.no_kind.Goals as goal

pub returns-clause-told : goal.returns-clause-told
returns-clause-told g c = refl
