use Rattle.std.proofs.Common.{take}
use Rattle.hk_cli_input.specs.Lines.{GoesOn}
use Rattle.hk_cli_input.proofs.lines.take_piece.Given as goal

abbrev pub invariant-loop-byte : goal.invariant-loop-byte
invariant-loop-byte g l =
    GoesOn l.most g.L.Lines.took l.fn.lines l.lines l.fn.line.bytes.items l.line.bytes.items (take l.byte-index l.piece)
