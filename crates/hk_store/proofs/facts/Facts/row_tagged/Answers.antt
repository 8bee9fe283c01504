use Rattle.std.proofs.Common.{rules}
use Rattle.hk_store.proofs.facts.Facts.row_tagged.Goals as goal

pub returns-in-Some : goal.returns-in-Some
returns-in-Some c = search rules
