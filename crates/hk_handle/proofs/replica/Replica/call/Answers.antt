use Rattle.std.proofs.Common.{rules}
use Rattle.hk_handle.proofs.replica.Replica.call.Goals as goal

pub returns-clause-called : goal.returns-clause-called
returns-clause-called c = search rules
