use Rattle.std.proofs.Common.{◌≡◌, ◌-◌}
use Rattle.hk_codec.specs.Kept.{steps_at}
use Rattle.hk_codec.proofs.kept_lists.read_elements.Given as goal

abbrev pub invariant-loop : goal.invariant-loop
invariant-loop g l = steps_at (g.K.Keeps.kept.next l.time l.table) (l.count - l.counter) l.kept l.cursor ≡ steps_at (g.K.Keeps.kept.next l.time l.table) l.count l.fn.kept l.fn.cursor
