use Rattle.hk_doors.proofs.HandingLaws.{joins_law, one_law, all_law}
use Rattle.hk_doors.proofs.laws.handing_law.Goals as goal

pub returns-clause-joins : goal.returns-clause-joins
returns-clause-joins c = joins_law

pub returns-clause-one : goal.returns-clause-one
returns-clause-one c = one_law

pub returns-clause-all : goal.returns-clause-all
returns-clause-all c = all_law
