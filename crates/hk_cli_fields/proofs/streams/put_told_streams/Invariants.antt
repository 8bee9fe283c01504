use Rattle.std.proofs.Common.{◌≡◌, ◌++◌, drop}
use Rattle.std.specs.String.{string_bytes}
use Rattle.hk_cli_fields.specs.LaterReplies.{told_lines}
use Rattle.hk_cli_fields.proofs.streams.put_told_streams.Given as goal

abbrev pub invariant-loop-index : goal.invariant-loop-index
invariant-loop-index l = string_bytes l.out ++ told_lines l.index (drop l.index l.streams) ≡ string_bytes l.initial.out ++ told_lines 0 l.streams
