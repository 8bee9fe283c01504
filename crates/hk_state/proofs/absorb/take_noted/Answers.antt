use Rattle.std.proofs.Common.{rules}
use Rattle.hk_state.proofs.absorb.take_noted.Goals as goal

pub returns-clause-agrees : goal.returns-clause-agrees
returns-clause-agrees c = search rules

pub returns-clause-err : goal.returns-clause-err
returns-clause-err c = search rules

pub returns-clause-back : goal.returns-clause-back
returns-clause-back c = search rules
