use Rattle.std.proofs.Common.{◌≡◌, ◌++◌, take}
use Rattle.std.specs.List.{flat_map}
use Rattle.std.specs.String.{string_bytes}
use Rattle.hk_cli_fields.specs.Lines.{keyed_line}
use Rattle.hk_cli_lines.proofs.line.put_rows.Given as goal

abbrev pub invariant-loop-key : goal.invariant-loop-key
invariant-loop-key l = string_bytes l.out ≡ string_bytes l.initial.out ++ flat_map keyed_line (take l.key-index l.rows)
