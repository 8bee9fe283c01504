use Rattle.std.proofs.Common.{arith, subst, All}
use Rattle.std.proofs.lemmas.List.{take_all}
use Rattle.std.proofs.lemmas.List.Elements.{All-more}
use Rattle.hk_answers.proofs.Lengths.{one_longer}
use Rattle.hk_answers.specs.declared.metrics.Metric.{Metric}
use Rattle.hk_answers.specs.Metrics.{metric_text, MetricFits}
use Rattle.hk_answers.proofs.metrics.many_len.Goals as goal

abbrev no_metric : Metric
no_metric = record { name = 0; label = 0; value = 0 }

pub loop-metric-preserved : goal.loop-metric-preserved
loop-metric-preserved c =
    let more = one_longer metric_text c.args.metrics.now c.loop-metric.metric-index no_metric c.loop-metric-test.true in (
      omega (arith, more, c.loop-metric.invariant.0, c.metric_len-total.ensures.len),
      omega (arith, c.loop-metric.invariant.1, c.metric_len-total.ensures.bound),
      All-more MetricFits c.args.metrics.now c.loop-metric.metric-index no_metric c.loop-metric-test.true c.loop-metric.invariant.2 c.metric_len-total.ensures.fits,
    )

pub returns-clause-fits : goal.returns-clause-fits
returns-clause-fits c = subst (All MetricFits) (take_all c.loop-metric.metric-index c.args.metrics.now c.loop-metric-test.false) c.loop-metric.invariant.2
