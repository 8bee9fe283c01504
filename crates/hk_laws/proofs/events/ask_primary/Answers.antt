use Rattle.hk_acting.proofs.OutOfMemory.{asked_err}
use Rattle.hk_laws.proofs.events.ask_primary.Goals as goal

pub returns-in-Err-clause-first : goal.returns-in-Err-clause-first
returns-in-Err-clause-first c = asked_err c.args.primary.now.config c.args.primary.now.history c.args.time c.args.query.now c.in-Err.why c.refused.result c.in-Err.ensures.early c.in-Err.ensures.lacks c.refused.ensures
