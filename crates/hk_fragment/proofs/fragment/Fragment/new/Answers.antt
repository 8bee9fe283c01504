use Rattle.std.proofs.Common.{rules}
use Rattle.hk_fragment.proofs.fragment.Fragment.new.Goals as goal

pub returns-then-lt-2 : goal.returns-then-lt-2
returns-then-lt-2 c = search rules

pub returns-in-Some : goal.returns-in-Some
returns-in-Some c = search rules

pub of_parts-requires-clause-faultless : goal.of_parts-requires-clause-faultless
of_parts-requires-clause-faultless c = search rules
