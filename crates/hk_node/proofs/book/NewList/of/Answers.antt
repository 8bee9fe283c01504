use Rattle.std.proofs.Common.{rules}
use Rattle.hk_node.proofs.book.NewList.of.Goals as goal

pub returns-clause-guarded : goal.returns-clause-guarded
returns-clause-guarded c = search rules
