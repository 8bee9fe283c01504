use Rattle.std.proofs.Common.{rules}
use Rattle.hk_store.proofs.facts.Facts.put_while.Goals as goal

pub returns-then-not-room-clause-agrees : goal.returns-then-not-room-clause-agrees
returns-then-not-room-clause-agrees c = search rules
