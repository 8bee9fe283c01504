use Rattle.std.proofs.Common.{◌≡◌, None, drop}
use Rattle.hk_answers.specs.Metrics as spec
use Rattle.hk_answers.proofs.metrics.metrics_rise.Given as goal

abbrev pub invariant-loop-metric : goal.invariant-loop-metric
invariant-loop-metric l = spec.metrics_rise l.before (drop l.metric-index l.metrics) ≡ spec.metrics_rise None l.metrics
