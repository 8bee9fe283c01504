use Rattle.std.proofs.Common.{◌≡◌, ◌++◌, take}
use Rattle.std.specs.List.{flat_map}
use Rattle.std.specs.String.{string_bytes}
use Rattle.hk_cli_fields.specs.Metrics.{table_line}
use Rattle.hk_cli_fields.proofs.metric.put_tables.Given as goal

abbrev pub invariant-loop-table : goal.invariant-loop-table
invariant-loop-table l = string_bytes l.out ≡ string_bytes l.initial.out ++ flat_map table_line (take l.table-index l.tables)
