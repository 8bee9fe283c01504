use Rattle.std.proofs.Common.{rules}
use Rattle.hk_codec.proofs.rewriting.rewrite.Goals as goal

pub returns-else-is_err : goal.returns-else-is_err
returns-else-is_err c = search rules
