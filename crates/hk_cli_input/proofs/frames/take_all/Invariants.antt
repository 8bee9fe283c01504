use Rattle.std.proofs.Common.{◌≡◌, ◌++◌}
use Rattle.hk_cli_input.specs.Taking.{TookMore}
use Rattle.hk_cli_input.proofs.frames.take_all.Given as goal

abbrev pub invariant-loop-item : goal.invariant-loop-item
invariant-loop-item g l =
    (goal.iterator-loop-item g).can_next l.item-iterator ×
    (goal.iterator-loop-item g).is_finite l.item-iterator ×
    (l.fn.items.items ≡ l.yielded ++ l.item-iterator.rest.items) ×
    TookMore g.S.Sink.took l.fn.sink l.sink l.yielded
