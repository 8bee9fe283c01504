use Rattle.std.proofs.Common.{rules}
use Rattle.hk_handle.proofs.handle.close.Goals as goal

pub returns : goal.returns
returns c = search rules
