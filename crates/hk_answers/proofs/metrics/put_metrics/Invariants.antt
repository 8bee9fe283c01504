use Rattle.std.proofs.Common.{◌≡◌, ◌++◌, length, take}
use Rattle.std.specs.Int.{w32}
use Rattle.std.specs.List.{flat_map}
use Rattle.hk_frames.specs.Fields.{number}
use Rattle.hk_answers.specs.Metrics as spec
use Rattle.hk_answers.proofs.metrics.put_metrics.Given as goal

abbrev pub invariant-loop-metric : goal.invariant-loop-metric
invariant-loop-metric l = l.out.items ≡ l.fn.out.items ++ (number w32 (length l.metrics) ++ flat_map spec.metric_text (take l.metric-index l.metrics))
