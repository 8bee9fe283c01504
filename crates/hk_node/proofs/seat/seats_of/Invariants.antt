use Rattle.std.proofs.Common.{◌≡◌, vec_len}
use Rattle.std.specs.Prelude.{All}
use Rattle.left_right.specs.Sides.{view as known}
use Rattle.hk_node.proofs.seat.seats_of.Given as goal

abbrev pub invariant-loop-i : goal.invariant-loop-i
invariant-loop-i g l =
    (vec_len l.seats ≡ l._i) × All (λ s. s ≡ l.prefix.1) l.seats.items
    × (l.writer.desk.shown ≡ l.initial.writer.desk.shown) × (l.writer.log ≡ l.initial.writer.log) × (l.writer.behind ≡ l.initial.writer.behind) × (known l.writer.desk.place ≡ known l.initial.writer.desk.place)
