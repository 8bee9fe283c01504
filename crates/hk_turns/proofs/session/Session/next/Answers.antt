use Rattle.std.proofs.Common.{rules}
use Rattle.hk_turns.proofs.session.Session.next.Goals as goal

pub returns-in-Some-clause-prompt : goal.returns-in-Some-clause-prompt
returns-in-Some-clause-prompt g c = search rules

pub returns-in-Some-clause-some : goal.returns-in-Some-clause-some
returns-in-Some-clause-some g c = search rules
