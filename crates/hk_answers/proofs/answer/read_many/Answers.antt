use Rattle.std.proofs.Common.{None}
use Rattle.std.proofs.lemmas.Result.{err_from_is_err_and}
use Rattle.hk_frames.proofs.ReadingLoop.{goes_on, ends, is_done}
use Rattle.hk_answers.specs.Answers.{keyed_at, keyed_rows_at}
use Rattle.hk_answers.proofs.answer.read_many.Goals as goal

pub returns-in_err-row : goal.returns-in_err-row
returns-in_err-row c =
    let p = err_from_is_err_and c.from_residual-in_err-row.result c.from_residual-in_err-row.ensures.1 in
    rw (p.1, p.2) (ends (λ e. e.0) keyed_at c.in_err-row.field-0.0 c.loop.rows.items c.args.count c.loop.counter c.loop.before c.loop.cursor (keyed_rows_at c.args.count None c.args.cursor.now) c.loop-test.true c.in_err-row.ensures c.loop.invariant)

pub loop-preserved : goal.loop-preserved
loop-preserved c =
    rw c.in_ok-push.ensures.items (goes_on (λ e. e.0) keyed_at c.loop.rows.items c.args.count c.loop.counter c.loop.before c.loop.cursor c.in_ok-row.row c.read_keyed.new.cursor (keyed_rows_at c.args.count None c.args.cursor.now) c.loop-test.true c.in_ok-row.ensures c.loop.invariant)

pub returns : goal.returns
returns c = is_done (λ e. e.0) keyed_at c.loop.rows.items c.args.count c.loop.counter c.loop.before c.loop.cursor (keyed_rows_at c.args.count None c.args.cursor.now) c.loop-test.false c.loop.invariant
