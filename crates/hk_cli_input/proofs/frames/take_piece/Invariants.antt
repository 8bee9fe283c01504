use Rattle.std.proofs.Common.{◌≡◌, ℕ, List, ◌++◌}
use Rattle.std.specs.Slice.Iter.{chunks_rest}
use Rattle.hk_cli_input.specs.Items.{GoesOn}
use Rattle.hk_cli_input.proofs.frames.take_piece.Given as goal

abbrev pub invariant-loop-part : goal.invariant-loop-part
invariant-loop-part g l =
    (goal.iterator-loop-part g).can_next l.part-iterator
    × (goal.iterator-loop-part g).is_finite l.part-iterator
    × (done : List ℕ) × (l.fn.piece ≡ done ++ chunks_rest l.part-iterator)
    × GoesOn g.S.Item.FromFrame.Reads g.S.Sink.took l.fn.sink l.sink l.fn.feeder l.feeder done
