use Rattle.std.proofs.Common.{◌≡◌, ◌≤◌, ◌*◌, length, take, All}
use Rattle.std.specs.List.{flat_map}
use Rattle.hk_answers.specs.Metrics as spec
use Rattle.hk_answers.proofs.metrics.many_len.Given as goal

abbrev pub invariant-loop-metric : goal.invariant-loop-metric
invariant-loop-metric l = (l.total ≡ length (flat_map spec.metric_text (take l.metric-index l.metrics))) × (l.total ≤ 12 * l.metric-index) × All spec.MetricFits (take l.metric-index l.metrics)
