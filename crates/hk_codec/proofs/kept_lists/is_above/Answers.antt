use Rattle.std.proofs.Common.{rules}
use Rattle.hk_codec.proofs.kept_lists.is_above.Goals as goal

pub returns-in-Some : goal.returns-in-Some
returns-in-Some c = search rules
