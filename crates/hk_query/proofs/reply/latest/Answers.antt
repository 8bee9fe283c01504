use Rattle.std.proofs.lemmas.Result.{err_from_is_err_and}
use Rattle.hk_query.proofs.Newest.{newest_err, newest_of_primary}
use Rattle.hk_query.proofs.reply.latest.Goals as goal

pub returns-in_err-answer-clause-err : goal.returns-in_err-answer-clause-err
returns-in_err-answer-clause-err c =
    let p = err_from_is_err_and c.from_residual.result c.from_residual.ensures.1 in
    rw (p.1, p.2) (newest_err c.args.state.now c.readable-time.result c.args.query.now _ _ c.readable-time.ensures.lawful c.readable-time.ensures.value c.in_err-answer.ensures.gives)

pub returns-clause-primary : goal.returns-clause-primary
returns-clause-primary c = newest_of_primary c.args.state.now c.readable-time.result c.args.query.now c.in_ok-answer.answer c.readable-time.ensures.value c.in_ok-answer.ensures.primary
