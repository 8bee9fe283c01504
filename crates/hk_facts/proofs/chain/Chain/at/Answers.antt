use Rattle.std.proofs.Common.{rules}
use Rattle.hk_facts.proofs.chain.Chain.at.Goals as goal

pub returns-in-Some : goal.returns-in-Some
returns-in-Some c = search rules
