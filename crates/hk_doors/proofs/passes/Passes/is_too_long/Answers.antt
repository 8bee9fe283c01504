use Rattle.std.proofs.Common.{sym, subst}
use Rattle.hk_doors.specs.declared.passes.Passes.{Passes}
use Rattle.hk_doors.specs.Doors.{NoneIsSoLong}
use Rattle.hk_doors.proofs.Passing.{none_is_so_long}
use Rattle.hk_doors.proofs.passes.Passes.is_too_long.Goals as goal

pub returns-in-Readings-clause-none : goal.returns-in-Readings-clause-none
returns-in-Readings-clause-none c = λ long. subst (λ (p : Passes). NoneIsSoLong p c.args.bytes) (sym c.in-Readings.is) (none_is_so_long c.args.bytes long)
