use Rattle.std.proofs.Common.{rules}
use Rattle.hk_handle.proofs.replica.Replica.keep_page.Goals as goal

pub returns-clause-told : goal.returns-clause-told
returns-clause-told c = search rules
