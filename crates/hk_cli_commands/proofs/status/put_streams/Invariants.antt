use Rattle.std.proofs.Common.{◌≡◌, ◌++◌}
use Rattle.std.specs.String.{string_bytes}
use Rattle.hk_cli_commands.specs.Statuses.{lines_of}
use Rattle.hk_cli_commands.proofs.status.put_streams.Given as goal

abbrev pub invariant-loop-index : goal.invariant-loop-index
invariant-loop-index l = string_bytes l.lines ≡ string_bytes l.initial.lines ++ lines_of l.form l.got l.index
