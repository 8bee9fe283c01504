use Rattle.std.proofs.Common.{◌≡◌, ◌++◌, take}
use Rattle.std.specs.List.{flat_map}
use Rattle.std.specs.String.{string_bytes}
use Rattle.hk_cli_fields.specs.Metrics.{metric_line}
use Rattle.hk_cli_fields.proofs.metric.put_stats.Given as goal

abbrev pub invariant-loop-metric : goal.invariant-loop-metric
invariant-loop-metric l = string_bytes l.out ≡ string_bytes l.initial.out ++ flat_map metric_line (take l.metric-index l.metrics)
