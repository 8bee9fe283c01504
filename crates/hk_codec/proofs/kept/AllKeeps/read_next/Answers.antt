use Rattle.std.proofs.Common.{rules}
use Rattle.hk_codec.proofs.kept.AllKeeps.read_next.Goals as goal

pub returns-in_err-element : goal.returns-in_err-element
returns-in_err-element g c = search rules

pub returns : goal.returns
returns g c = search rules
