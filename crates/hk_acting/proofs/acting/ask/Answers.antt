use Rattle.hk_model.specs.Replica.Answers.{reply}
use Rattle.hk_acting.proofs.OutOfMemory.{reply_err}
use Rattle.hk_acting.proofs.acting.ask.Goals as goal

pub returns-in-Err-clause-first : goal.returns-in-Err-clause-first
returns-in-Err-clause-first c = reply_err (reply c.args.state.now c.args.time c.args.query.now) c.in-Err.why c.refused.result c.in-Err.ensures.memory c.refused.ensures
