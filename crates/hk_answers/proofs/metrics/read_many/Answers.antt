use Rattle.std.proofs.Common.{None}
use Rattle.std.proofs.lemmas.Result.{err_from_is_err_and}
use Rattle.hk_frames.proofs.ReadingLoop.{goes_on, ends, is_done}
use Rattle.hk_answers.specs.Metrics.{metric_place, metric_at, metric_list_at}
use Rattle.hk_answers.proofs.metrics.read_many.Goals as goal

pub returns-in_err-metric : goal.returns-in_err-metric
returns-in_err-metric c =
    let p = err_from_is_err_and c.from_residual-in_err-metric.result c.from_residual-in_err-metric.ensures.1 in
    rw (p.1, p.2) (ends metric_place metric_at c.in_err-metric.field-0.0 c.loop.metrics.items c.args.count c.loop.counter c.loop.before c.loop.cursor (metric_list_at c.args.count None c.args.cursor.now) c.loop-test.true c.in_err-metric.ensures c.loop.invariant)

pub loop-preserved : goal.loop-preserved
loop-preserved c =
    rw c.in_ok-push.ensures.items (goes_on metric_place metric_at c.loop.metrics.items c.args.count c.loop.counter c.loop.before c.loop.cursor c.in_ok-metric.metric c.read_metric.new.cursor (metric_list_at c.args.count None c.args.cursor.now) c.loop-test.true c.in_ok-metric.ensures c.loop.invariant)

pub returns : goal.returns
returns c = is_done metric_place metric_at c.loop.metrics.items c.args.count c.loop.counter c.loop.before c.loop.cursor (metric_list_at c.args.count None c.args.cursor.now) c.loop-test.false c.loop.invariant
