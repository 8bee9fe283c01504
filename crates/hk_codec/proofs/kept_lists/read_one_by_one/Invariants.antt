use Rattle.std.proofs.Common.{◌≡◌, ◌-◌}
use Rattle.hk_codec.specs.Kept.{steps_at, tabled_at}
use Rattle.hk_codec.proofs.kept_lists.read_one_by_one.Given as goal

abbrev pub invariant-loop : goal.invariant-loop
invariant-loop g l = steps_at (tabled_at g.K.Keeps.kept l.time) (l.count - l.counter) l.kept l.cursor ≡ steps_at (tabled_at g.K.Keeps.kept l.time) l.count l.fn.kept l.fn.cursor
