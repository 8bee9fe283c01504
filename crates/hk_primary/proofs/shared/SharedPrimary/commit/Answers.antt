use Rattle.std.proofs.Common.{rules}
use Rattle.hk_primary.proofs.shared.SharedPrimary.commit.Goals as goal

pub returns-in_err-time-clause-told : goal.returns-in_err-time-clause-told
returns-in_err-time-clause-told g c = search rules

pub returns-in_err-time-clause-back : goal.returns-in_err-time-clause-back
returns-in_err-time-clause-back g c = search rules

pub returns-clause-told : goal.returns-clause-told
returns-clause-told g c = search rules
