use Rattle.std.proofs.Common.{ℕ, List, ◌<◌, length}
use Rattle.std.specs.Io.KnownBytes.{Consumes}
use Rattle.hk_cli_input.specs.Lines.{Stands}
use Rattle.hk_cli_input.proofs.lines.read_lines.Given as goal

abbrev pub invariant-loop : goal.invariant-loop
invariant-loop g l =
    (0 < length l.piece) × (bytes : List ℕ) × Consumes (g.I.Read.remaining l.fn.input) (g.I.Read.remaining l.input) bytes
    × Stands l.most g.L.Lines.took l.fn.lines l.lines bytes l.line.bytes.items
