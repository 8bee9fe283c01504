use Rattle.std.proofs.Common.{ℕ, List, ◌<◌, length}
use Rattle.std.specs.Io.KnownBytes.{Consumes}
use Rattle.hk_cli_input.specs.Items.{Stands}
use Rattle.hk_cli_input.proofs.frames.hand_items.Given as goal

abbrev pub invariant-loop : goal.invariant-loop
invariant-loop g l =
    (0 < length l.piece) × (bytes : List ℕ) × Consumes (g.I.Read.remaining l.fn.input) (g.I.Read.remaining l.input) bytes
    × Stands g.S.Item.FromFrame.Reads g.S.Sink.took l.fn.sink l.sink bytes l.feeder
