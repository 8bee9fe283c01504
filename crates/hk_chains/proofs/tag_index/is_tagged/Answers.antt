use Rattle.std.proofs.Common.{rules}
use Rattle.hk_chains.proofs.tag_index.is_tagged.Goals as goal

pub returns-in-None : goal.returns-in-None
returns-in-None c = search rules
