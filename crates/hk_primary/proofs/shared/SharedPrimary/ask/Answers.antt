use Rattle.std.proofs.Common.{rules}
use Rattle.hk_primary.proofs.shared.SharedPrimary.ask.Goals as goal

pub returns-then-lt-clause-refused : goal.returns-then-lt-clause-refused
returns-then-lt-clause-refused g c = search rules
